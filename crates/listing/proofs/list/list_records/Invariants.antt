use Rattle.std.proofs.Common.{◌≡◌, ◌+◌, ◌≤◌, ◌++◌, length, string_bytes}
use Rattle.sheet.specs.Reads.{left}
use Rattle.sheet.specs.Readings.{reading}
use Rattle.listing.specs.Listings.{reading_lines}
use Rattle.listing.proofs.list.list_records.Given as goal

-- the lines so far, and those of what is left, are all
abbrev pub invariant-loop-place : goal.invariant-loop-place
invariant-loop-place l =
    (l.place-iterator.start + length (left l.reader) ≤ 32769)
    × (string_bytes l.out ++ reading_lines l.place-iterator.start (reading (left l.reader)) ≡ string_bytes l.initial.out ++ reading_lines 1 (reading (left l.initial.reader)))
