-- Taking out the message at an index, as the library's vector does it.
use Rattle.std.proofs.Common.{◌≡◌, ℕ, zero, suc, ◌<◌, List, [], ◌∷◌, length, Some, None, Option, sym, refl, ap, ◌∙◌, arith}
use Rattle.std.specs.Option.{OnSome, IfNone}
use Rattle.std.specs.List.{slice_get, remove}
use Rattle.std.proofs.lemmas.Option.{slice_get_within}
use Rattle.arrayvec.specs.ArrayVec.{ArrayVec}
use Rattle.wires.specs.Waiting.{without}

within : {X : Type 0} (xs : List X) (i : ℕ) → i < length xs → remove xs i ≡ without xs i
within [] i h = absurd (omega arith)
within (x ∷ xs) zero h = refl
within (x ∷ xs) (suc i) h = ap (λ l. x ∷ l) (within xs i (omega arith))

past : {X : Type 0} (xs : List X) (i : ℕ) → slice_get xs i ≡ None → xs ≡ without xs i
past [] i e = refl
past (x ∷ xs) zero e = absurd cc
past (x ∷ xs) (suc i) e = ap (λ l. x ∷ l) (past xs i e)

-- what is left after the message at an index was taken, or there was none
pub taken : {X : Type 0} (v w : ArrayVec X) (i : ℕ) (o : Option X) → o ≡ slice_get v.items i → OnSome o (w.items ≡ remove v.items i) → IfNone o (w ≡ v) → w.items ≡ without v.items i
taken v w i (Some m) e some none = some ∙ within v.items i (slice_get_within v.items i m (sym e))
taken v w i None e some none = ap (λ u. u.items) none ∙ past v.items i (sym e)
