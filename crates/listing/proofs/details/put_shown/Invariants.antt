use Rattle.std.proofs.Common.{◌≡◌, ◌*◌, ◌≤◌, take}
use Rattle.std.specs.Str.{IsAscii}
use Rattle.listing.specs.Lines.{shown}
use Rattle.listing.proofs.details.put_shown.Given as goal

-- what is shown so far stands at the front
abbrev pub invariant-loop-byte : goal.invariant-loop-byte
invariant-loop-byte l =
    (l.end ≤ 4 * l.byte-index) × (take l.end l.text ≡ shown (take l.byte-index l.fn.bytes)) × IsAscii (shown (take l.byte-index l.fn.bytes))
