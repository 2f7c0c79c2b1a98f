-- What an end that was found, or refused, tells.
use Rattle.std.proofs.Common.{◌≡◌, ℕ, ◌+◌, ◌≤◌, true, ltb, Ok}
use Rattle.std.proofs.lemmas.Bool.{cond_both, ltb-false}
use Rattle.sheet.specs.declared.head.HeadCodes.{HeadCodes}
use Rattle.sheet.specs.Heads.{in_bounds}
use Rattle.sheet.specs.Records.{Item}
use Rattle.sheet.specs.Format.{size, proper}
use Rattle.writer.specs.Writes.{head_end, record_end}

-- a head that was found to fit
pub head_fits : (n : ℕ) (h : HeadCodes) (m : ℕ) → Ok m ≡ head_end n h → (13 ≤ n) × (m ≡ 13) × (in_bounds h ≡ true)
head_fits n h m =
    cond_both (in_bounds h) _ _ (λ r. Ok m ≡ r → (13 ≤ n) × (m ≡ 13) × (in_bounds h ≡ true))
    (λ t. cond_both (ltb n 13) _ _ (λ r. Ok m ≡ r → (13 ≤ n) × (m ≡ 13) × (in_bounds h ≡ true))
    (λ _ q. cc)
    (λ f q. (ltb-false n 13 f, (cc), t)))
    (λ _ q. cc)

-- a record that was found to fit
pub record Fits (i n : ℕ) (x : Item) (m : ℕ) : Type 0 where
  pub ends : m ≡ i + size x
  pub within : i + size x ≤ n
  pub few : i + size x ≤ 32768
  pub good : proper x ≡ true

pub record_fits : (i n : ℕ) (x : Item) (m : ℕ) → Ok m ≡ record_end i n x → Fits i n x m
record_fits i n x m =
    cond_both (ltb 32768 (i + size x)) _ _ (λ r. Ok m ≡ r → Fits i n x m)
    (λ _ q. cc)
    (λ f. cond_both (proper x) _ _ (λ r. Ok m ≡ r → Fits i n x m)
    (λ p. cond_both (ltb n (i + size x)) _ _ (λ r. Ok m ≡ r → Fits i n x m)
    (λ _ q. cc)
    (λ g q. record { ends = cc; within = ltb-false n (i + size x) g; few = ltb-false 32768 (i + size x) f; good = p }))
    (λ _ q. cc))
