-- A reading goes record by record: one law opens it.
use Rattle.std.proofs.Common.{◌≡◌, ℕ, zero, suc, ◌<◌, ◌≤◌, List, [], ◌∷◌, length, Some, None, Ok, Err, sym, refl, ap, ◌∙◌, arith}
use Rattle.sheet.specs.Records.{Item}
use Rattle.sheet.specs.Format.{Front, ends, holds, refuses, front}
use Rattle.sheet.specs.Reads.{answer_at, left_at}
use Rattle.sheet.specs.Readings.{Reading, through, stopped, after, next, reading_by, reading}
use Rattle.sheet.proofs.Fronts.{front_shorter}

-- two ways to read what follows the same front, equal wherever the rest is shorter than the bytes
next_same : (f g : List ℕ → Reading) (bs : List ℕ) → ((zs : List ℕ) → length zs < length bs → f zs ≡ g zs) → (h : Front) → front bs ≡ h → next f h ≡ next g h
next_same f g bs s ends e = refl
next_same f g bs s (holds x zs) e = ap (after x) (s zs (front_shorter bs x zs e))
next_same f g bs s (refuses n) e = refl

-- any number of turns that is enough reads the same
turns_same : (m n : ℕ) (bs : List ℕ) → length bs ≤ m → length bs ≤ n → reading_by m bs ≡ reading_by n bs
unfolding reading_by front
turns_same zero zero bs p q = refl
turns_same zero (suc n) [] p q = refl
turns_same zero (suc n) (b ∷ bs) p q = absurd (omega arith)
turns_same (suc m) zero [] p q = refl
turns_same (suc m) zero (b ∷ bs) p q = absurd (omega arith)
turns_same (suc m) (suc n) bs p q =
    next_same (reading_by m) (reading_by n) bs (λ zs l. turns_same m n zs (omega arith) (omega arith)) (front bs) refl

pub reading_step : (bs : List ℕ) → reading bs ≡ next reading (front bs)
unfolding reading reading_by front
reading_step [] = refl
reading_step (b ∷ bs) =
    next_same (reading_by (length bs)) reading (b ∷ bs) (λ zs l. turns_same (length bs) (length zs) zs (omega arith) (omega arith)) (front (b ∷ bs)) refl

not_none : (x : Item) (r : Reading) → after x r ≡ through [] → ⊥
not_none x (through xs) e = cc
not_none x (stopped xs n) e = cc

none_at : (f : Front) → next reading f ≡ through [] → f ≡ ends
none_at ends e = refl
none_at (holds x zs) e = absurd (not_none x (reading zs) e)
none_at (refuses n) e = cc

more_after : (y x : Item) (xs : List Item) (r : Reading) → after y r ≡ through (x ∷ xs) → (y ≡ x) × (r ≡ through xs)
more_after y x xs (through ys) e = ((cc), let p : ys ≡ xs = cc in ap through p)
more_after y x xs (stopped ys n) e = cc

more_at : (f : Front) (x : Item) (xs : List Item) → next reading f ≡ through (x ∷ xs) → (zs : List ℕ) × (f ≡ holds x zs) × (reading zs ≡ through xs)
more_at ends x xs e = cc
more_at (holds y zs) x xs e = let p = more_after y x xs (reading zs) e in (zs, ap (λ w. holds w zs) p.0, p.1)
more_at (refuses n) x xs e = cc

-- bytes that read to their end as no record, or as one and more
pub reading_none : (bs : List ℕ) → reading bs ≡ through [] → front bs ≡ ends
reading_none bs e = none_at (front bs) (sym (reading_step bs) ∙ e)

pub reading_more : (bs : List ℕ) (x : Item) (xs : List Item) → reading bs ≡ through (x ∷ xs) → (zs : List ℕ) × (front bs ≡ holds x zs) × (reading zs ≡ through xs)
reading_more bs x xs e = more_at (front bs) x xs (sym (reading_step bs) ∙ e)

-- what a reader's answer tells of the bytes that it had left
record_at : (f : Front) (bs zs : List ℕ) (x : Item) → Ok (Some x) ≡ answer_at f → zs ≡ left_at f bs → f ≡ holds x zs
record_at ends bs zs x a g = cc
record_at (holds y ws) bs zs x a g = cc
record_at (refuses n) bs zs x a g = cc

end_at : (f : Front) → Ok None ≡ answer_at f → f ≡ ends
end_at ends a = refl
end_at (holds y ws) a = cc
end_at (refuses n) a = cc

refusal_at : (f : Front) (n : ℕ) → Err n ≡ answer_at f → f ≡ refuses n
refusal_at ends n a = cc
refusal_at (holds y ws) n a = cc
refusal_at (refuses m) n a = cc

pub drew_record : (bs zs : List ℕ) (x : Item) → Ok (Some x) ≡ answer_at (front bs) → zs ≡ left_at (front bs) bs → (reading bs ≡ after x (reading zs)) × (length zs < length bs)
drew_record bs zs x a g =
    let e = record_at (front bs) bs zs x a g in
    (reading_step bs ∙ ap (next reading) e, front_shorter bs x zs e)

pub drew_none : (bs : List ℕ) → Ok None ≡ answer_at (front bs) → reading bs ≡ through []
drew_none bs a = reading_step bs ∙ ap (next reading) (end_at (front bs) a)

pub drew_refusal : (bs : List ℕ) (n : ℕ) → Err n ≡ answer_at (front bs) → reading bs ≡ stopped [] n
drew_refusal bs n a = reading_step bs ∙ ap (next reading) (refusal_at (front bs) n a)
