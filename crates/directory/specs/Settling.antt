-- The entries of a set, of which some lose a block that they show in S.
use Rattle.std.specs.Prelude.{ℕ, Bool, true, cond}
use Rattle.machine.specs.declared.holding.Entry.{Entry}
use Rattle.machine.specs.Acceptance.{dismissed}

-- those whose cache and way pass a test
abbrev pub cleared_where : (ℕ → ℕ → Bool) → ℕ → (ℕ → ℕ → Entry) → ℕ → ℕ → Entry
cleared_where test b f c w = cond (test c w) (dismissed true b (f c w)) (f c w)
