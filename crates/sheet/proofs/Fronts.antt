-- What stands at the front of bytes, by letter and length; where the bytes after a record lie.
use Rattle.std.proofs.Common.{◌≡◌, ◌≢◌, ℕ, suc, ◌+◌, ◌-◌, ◌*◌, ◌/◌, ◌<◌, ◌≤◌, eqb, leb, List, [], ◌∷◌, ◌++◌, length, get_or, take, drop, sym, refl, ap, ◌∙◌, append_assoc, arith}
use Rattle.std.proofs.lemmas.Bool.{leb-true, eqb-true, cond_both}
use Rattle.std.proofs.lemmas.List.{drop-drop, length-drop, length-take-le, take-append-drop, take_rest}
use Rattle.sheet.specs.Bytes.{bytes_of, field, Bytes}
use Rattle.sheet.specs.Records.{Item, content, note}
use Rattle.sheet.specs.Format.{Front, ends, holds, refuses, fixed, sized, lettered, front, encode, letter_l, letter_s, letter_d, letter_m, letter_c, letter_n}
use Rattle.sheet.proofs.Bytes.{places, bytes_of_field, opened, byte_at}

-- the rest as a slice pattern has it
abbrev pub rest : ℕ → List ℕ → List ℕ
rest n bs = take (length bs - n) (drop n bs)

-- what follows an item is an end of the bytes
abbrev pub End : List ℕ → List ℕ → Type 0
End zs bs = (k : ℕ) × (k ≤ length bs) × (zs ≡ drop k bs)

-- what a letter and the bytes after it read: never the end; where it is an item, what follows lies in the bytes, and the letter and the bytes are that item's and then those
abbrev Stands : ℕ → List ℕ → Front → Type 0
Stands k bs f = (f ≢ ends) × ((x : Item) (zs : List ℕ) → f ≡ holds x zs → (n : ℕ) × (n ≤ length bs) × (zs ≡ drop n bs) × (Bytes bs → k ∷ bs ≡ encode x ++ zs))

module _ (k : ℕ) (bs : List ℕ) where
  refused : (n : ℕ) → Stands k bs (refuses n)
  refused n = (λ e. cc, λ x zs e. cc)

  held : (n : ℕ) (y : Item) (ds : List ℕ) → n ≤ length bs → ds ≡ drop n bs → (Bytes bs → k ∷ bs ≡ encode y ++ ds) → Stands k bs (holds y ds)
  held n y ds l d w = (λ e. cc, λ x zs e. (n, l, (cc), λ h. let p = w h in cc))

  by_fixed : (n : ℕ) (y : Item) → (Bytes bs → k ∷ places 0 n bs ≡ encode y) → Stands k bs (fixed n y bs)
  by_fixed n y w =
      cond_both (leb n (length bs)) _ _ (Stands k bs)
      (λ t. let m = leb-true n (length bs) t in held n y (drop n bs) m refl (λ h. ap (λ l. k ∷ l) (opened n bs m) ∙ ap (λ l. l ++ drop n bs) (w h)))
      (λ _. refused 9)

  by_sized : (m n : ℕ) (f : List ℕ → Item) → (Bytes bs → (ys : List ℕ) → length ys ≡ n → k ∷ (places 0 m bs ++ ys) ≡ encode (f ys)) → Stands k bs (sized m n f bs)
  by_sized m n f w =
      cond_both (leb m (length bs)) _ _ (Stands k bs)
      (λ t. cond_both (leb n (length (drop m bs))) _ _ (Stands k bs)
      (λ u.
      let ds = drop m bs in
      let a = leb-true m (length bs) t in
      let b = leb-true n (length ds) u in
      let c : n ≤ length bs - m = rw length-drop at b in
      held (m + n) (f (take n ds)) (drop n ds) (omega (arith, a, c)) (drop-drop n m bs) (λ h.
      ap (λ l. k ∷ l) (opened m bs a ∙ ap (λ l. places 0 m bs ++ l) (sym (take-append-drop n ds)) ∙ sym (append_assoc (places 0 m bs) (take n ds) (drop n ds)))
      ∙ ap (λ l. l ++ drop n ds) (w h (take n ds) (length-take-le n ds b))))
      (λ _. refused 9))
      (λ _. refused 9)

  stands : Stands k bs (lettered k bs)
  stands =
      let two : Bytes bs → (i : ℕ) → places i 2 bs ≡ bytes_of 2 (field i 2 bs) = λ h i. sym (bytes_of_field 2 i bs (byte_at bs h)) in
      cond_both (eqb k letter_l) _ _ (Stands k bs) (λ t. by_fixed 4 _ (λ h. rw (eqb-true k letter_l t) (ap (λ l. letter_l ∷ get_or bs 0 0 ∷ (l ++ (get_or bs 3 0 ∷ []))) (two h 1)))) (λ _.
      cond_both (eqb k letter_s) _ _ (Stands k bs) (λ t. by_fixed 12 _ (λ h. rw (eqb-true k letter_s t)
      (ap (λ l. letter_s ∷ get_or bs 0 0 ∷ (l ++ (get_or bs 3 0 ∷ places 4 8 bs))) (two h 1)
      ∙ ap (λ l. letter_s ∷ get_or bs 0 0 ∷ (bytes_of 2 (field 1 2 bs) ++ (get_or bs 3 0 ∷ l))) (sym (bytes_of_field 8 4 bs (byte_at bs h)))))) (λ _.
      cond_both (eqb k letter_d) _ _ (Stands k bs) (λ t. by_fixed 2 _ (λ h. rw (eqb-true k letter_d t) refl)) (λ _.
      cond_both (eqb k letter_m) _ _ (Stands k bs) (λ t. by_fixed 1 _ (λ h. rw (eqb-true k letter_m t) refl)) (λ _.
      cond_both (eqb k letter_c) _ _ (Stands k bs) (λ t. by_sized 3 (16 * get_or bs 2 0) (content (field 0 2 bs)) (λ h ys l. rw (eqb-true k letter_c t)
      (let c : get_or bs 2 0 ≡ length ys / 16 = omega arith in ap (λ l. letter_c ∷ (l ++ (get_or bs 2 0 ∷ ys))) (two h 0) ∙ ap (λ n. letter_c ∷ (bytes_of 2 (field 0 2 bs) ++ (n ∷ ys))) c))) (λ _.
      cond_both (eqb k letter_n) _ _ (Stands k bs) (λ t. by_sized 1 _ note (λ h ys l. rw (eqb-true k letter_n t) (ap (λ n. letter_n ∷ n ∷ ys) (sym l)))) (λ _. refused 8))))))

pub front_none : (bs : List ℕ) → front bs ≡ ends → [] ≡ bs
unfolding front
front_none [] e = refl
front_none (b ∷ bs) e = absurd ((stands b bs).0 e)

-- an item is its bytes, and what follows it
pub front_back : (bs : List ℕ) (x : Item) (zs : List ℕ) → Bytes bs → front bs ≡ holds x zs → bs ≡ encode x ++ zs
unfolding front
front_back [] x zs h e = cc
front_back (b ∷ bs) x zs h e = let s = (stands b bs).1 x zs e in s.3 h.1

pub front_end : (bs : List ℕ) (x : Item) (zs : List ℕ) → front bs ≡ holds x zs → End zs bs
unfolding front
front_end [] x zs e = cc
front_end (b ∷ bs) x zs e = let s = (stands b bs).1 x zs e in (suc s.0, omega (arith, s.1), s.2)

-- an item drawn from xs at i: what follows it lies in xs, and where
module _ (xs : List ℕ) (i : ℕ) (x : Item) (zs : List ℕ) (in_xs : i ≤ length xs) (e : holds x zs ≡ front (rest i xs)) where
  pub drawn_front : front (drop i xs) ≡ holds x zs
  drawn_front = rw take_rest at (sym e)

  place : (k : ℕ) × (i + k ≤ length xs) × (zs ≡ drop (i + k) xs)
  place = let s = front_end (drop i xs) x zs drawn_front in
      let m : s.0 ≤ length xs - i = rw length-drop at s.1 in
      (s.0, omega (arith, in_xs), s.2 ∙ drop-drop s.0 i xs)

  drawn_length : length zs ≡ length xs - (i + place.0)
  drawn_length = ap length place.2 ∙ length-drop (i + place.0) xs

  pub drawn_within : length zs ≤ length xs
  drawn_within = omega (arith, drawn_length, place.1)

  pub drawn_left : drop (length xs - length zs) xs ≡ zs
  drawn_left =
      let m : length xs - length zs ≡ i + place.0 = omega (arith, drawn_length, place.1) in rw m (sym place.2)

-- an item takes at least its letter
pub front_shorter : (bs : List ℕ) (x : Item) (zs : List ℕ) → front bs ≡ holds x zs → length zs < length bs
unfolding front
front_shorter [] x zs e = cc
front_shorter (b ∷ bs) x zs e = let s = (stands b bs).1 x zs e in omega (arith, ap length s.2, length-drop s.0 bs)
