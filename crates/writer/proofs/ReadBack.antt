-- What was written is read: a record, the records, the head.
use Rattle.std.proofs.Common.{◌≡◌, ℕ, ◌*◌, ◌/◌, ◌%◌, ◌^◌, ◌<◌, ◌≤◌, true, List, [], ◌∷◌, ◌++◌, length, drop, Ok, Err, refl, ap, ◌∙◌, arith}
use Rattle.std.specs.List.{AllByRecursion}
use Rattle.std.proofs.lemmas.List.{length-append, take_at, drop_at}
use Rattle.std.proofs.lemmas.Bool.{le-leb, le-ltb, eqb-true, and_parts, cond-true, cond-false}
use Rattle.sheet.specs.declared.head.HeadCodes.{HeadCodes}
use Rattle.sheet.specs.Bytes.{bytes_of, field}
use Rattle.sheet.specs.Heads.{in_bounds, head_bytes, head_of, judged, marked, codes_in}
use Rattle.sheet.specs.Records.{Item, load, store, deliver, turn, content, note}
use Rattle.sheet.specs.Format.{holds, fixed, sized, front, encode, proper}
use Rattle.sheet.specs.Readings.{reading, next, after, through}
use Rattle.sheet.proofs.Readings.{reading_step}
use Rattle.writer.specs.RoundTrips.{InFields, written}
use Rattle.writer.proofs.Numbers.{number_bytes_of}

fixed_is : (n : ℕ) (x : Item) (bs : List ℕ) → n ≤ length bs → fixed n x bs ≡ holds x (drop n bs)
fixed_is n x bs h = cond-true _ _ _ (le-leb _ _ h)

sized_is : (k n : ℕ) (f : List ℕ → Item) (bs ys zs : List ℕ) → k ≤ length bs → drop k bs ≡ ys ++ zs → length ys ≡ n → sized k n f bs ≡ holds (f ys) zs
sized_is k n f bs ys zs h d l =
    let m : n ≤ length (ys ++ zs) = rw length-append (omega arith) in
    cond-true _ _ _ (le-leb _ _ h)
    ∙ rw d (cond-true _ _ _ (le-leb _ _ m) ∙ rw (take_at ys zs n l, drop_at ys zs n l) refl)

pub front_back : (x : Item) (rest : List ℕ) → InFields x → proper x ≡ true → front (encode x ++ rest) ≡ holds x rest
unfolding front
front_back (load c b w) rest h p =
    fixed_is 4 _ (c ∷ (bytes_of 2 b ++ (w ∷ rest))) (omega arith) ∙ ap (λ n. holds (load c n w) rest) (number_bytes_of 2 b h)
front_back (store c b w v) rest h p =
    fixed_is 12 _ (c ∷ (bytes_of 2 b ++ (w ∷ (bytes_of 8 v ++ rest)))) (omega arith)
    ∙ ap (λ n. holds (store c n w (field 0 8 (bytes_of 8 v))) rest) (number_bytes_of 2 b h.0)
    ∙ ap (λ n. holds (store c b w n) rest) (number_bytes_of 8 v h.1)
front_back (deliver k q) rest h p = fixed_is 2 _ (k ∷ q ∷ rest) (omega arith)
front_back (turn q) rest h p = fixed_is 1 _ (q ∷ rest) (omega arith)
front_back (content b bs) rest h p =
    let whole : length bs % 16 ≡ 0 = eqb-true (length bs % 16) 0 (and_parts _ _ p).0 in
    sized_is 3 (16 * (length bs / 16)) (content (field 0 2 (bytes_of 2 b))) (bytes_of 2 b ++ ((length bs / 16) ∷ (bs ++ rest))) bs rest (omega arith) refl (omega arith)
    ∙ ap (λ n. holds (content n bs) rest) (number_bytes_of 2 b h)
front_back (note t) rest h p = sized_is 1 (length t) note (length t ∷ (t ++ rest)) t rest (omega arith) refl refl

pub records_back : (xs : List Item) → AllByRecursion InFields xs → AllByRecursion (λ x. proper x ≡ true) xs → reading (written xs) ≡ through xs
unfolding front
records_back [] h p = reading_step []
records_back (x ∷ xs) h p =
    reading_step (encode x ++ written xs) ∙ ap (next reading) (front_back x (written xs) h.0 p.0) ∙ ap (after x) (records_back xs h.1 p.1)

-- 13 bytes of a head and more are marked as one
marked_back : (h : HeadCodes) (rest : List ℕ) → marked (head_bytes h ++ rest) ≡ true
marked_back h rest =
    let l : 13 ≤ length (head_bytes h ++ rest) = omega arith in
    rw (le-leb 13 (length (head_bytes h ++ rest)) l)

codes_back : (h : HeadCodes) (rest : List ℕ) → h.blocks < 256 ^ 2 → codes_in (head_bytes h ++ rest) ≡ h
codes_back h rest l = ap (λ n. record { protocol = h.protocol; channels = h.channels; memory = h.memory; caches = h.caches; sets = h.sets; ways = h.ways; blocks = n }) (number_bytes_of 2 h.blocks l)

pub head_back : (h : HeadCodes) (rest : List ℕ) → h.blocks < 256 ^ 2 → in_bounds h ≡ true → length (head_bytes h ++ rest) ≤ 32768 → head_of (head_bytes h ++ rest) ≡ Ok h
head_back h rest l b f =
    cond-false _ _ _ (le-ltb 32768 (length (head_bytes h ++ rest)) f)
    ∙ cond-true _ _ _ (marked_back h rest)
    ∙ ap judged (codes_back h rest l)
    ∙ cond-true (in_bounds h) (Ok h) (Err 7) b
