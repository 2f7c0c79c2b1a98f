-- The test of a head says what it is named for: the head that a sheet's bytes have passes it.
use Rattle.std.proofs.Common.{◌≡◌, ℕ, true, eqb, Ok, Result, refl}
use Rattle.std.proofs.lemmas.Bool.{eq-eqb}
use Rattle.sheet.specs.declared.head.HeadCodes.{HeadCodes}
use Rattle.sheet.specs.Heads.{is_head}

same_self : (n : ℕ) → eqb n n ≡ true
same_self n = eq-eqb n n refl

pub is_head_holds : (r : Result HeadCodes ℕ) (h : HeadCodes) → Ok h ≡ r → is_head r h ≡ true
is_head_holds r h e = rw (← e) (simp same_self)
