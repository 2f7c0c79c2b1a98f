-- One write after another.
use Rattle.std.proofs.Common.{◌≡◌, ℕ, ◌+◌, ◌≤◌, List, ◌++◌, length, take, drop, sym, ap, ◌∙◌, append_assoc, add_assoc}
use Rattle.std.proofs.lemmas.List.{length-append, length-take-le, take_at, drop_at, drop-drop}
use Rattle.writer.specs.Writes.{pasted}

module _ (xs : List ℕ) (i : ℕ) (a : List ℕ) (fits : i ≤ length xs) where
  front_long : length (take i xs ++ a) ≡ i + length a
  front_long = rw (length-append, length-take-le)

  -- what stood before the place, and what was written there
  pub taken : take (i + length a) (pasted xs i a) ≡ take i xs ++ a
  unfolding pasted
  taken = rw (← append_assoc (take i xs) a (drop (i + length a) xs)) (take_at _ _ _ front_long)

module _ (xs : List ℕ) (i : ℕ) (a b : List ℕ) (fits : i ≤ length xs) where
  dropped : drop (i + length a + length b) (pasted xs i a) ≡ drop (i + length (a ++ b)) xs
  unfolding pasted
  dropped =
      sym (drop-drop (length b) (i + length a) (pasted xs i a))
      ∙ ap (drop (length b)) (rw (← append_assoc (take i xs) a (drop (i + length a) xs)) (drop_at _ _ _ (front_long xs i a fits)))
      ∙ drop-drop (length b) (i + length a) xs
      ∙ ap (λ n. drop n xs) (rw (length-append) (add_assoc _ _ _))

  pub pasted_twice : pasted (pasted xs i a) (i + length a) b ≡ pasted xs i (a ++ b)
  unfolding pasted
  pasted_twice = rw (taken xs i a fits, dropped) (simp append_assoc)

-- an item that is written in two parts
pub in_two : (xs : List ℕ) (i : ℕ) (a b m n ys : List ℕ) → i ≤ length xs → m ≡ pasted xs i a → n ≡ pasted m (i + length a) b → ys ≡ a ++ b → n ≡ pasted xs i ys
in_two xs i a b m n ys h d e f = e ∙ rw (d, f) (pasted_twice xs i a b h)
