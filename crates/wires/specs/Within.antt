-- Where messages wait, each kind's pick shows one of them: why each kind keeps this law.
use Rattle.std.proofs.Common.{◌≡◌, ℕ, zero, suc, ◌<◌, Bool, true, false, cond, List, [], ◌∷◌, length, Some, None, Option, refl, ap, ◌∙◌, arith}
use Rattle.std.specs.List.{slice_get}
use Rattle.std.proofs.lemmas.Nat.{mod_below}
use Rattle.std.proofs.lemmas.Bool.{eq-eqb}
use Rattle.bedrock.specs.declared.party.Party.{Party}
use Rattle.bedrock.specs.declared.party.Party.TheVariants.{Cache, Directory, Memory}
use Rattle.bedrock.specs.Parties.{same_party}
use Rattle.wires.specs.Picks.{unordered_pick, single_file_pick, first_by, same_pair, oldest_of_pair, paired_pick}

pub unordered_within : {X : Type 0} (xs : List X) (p : ℕ) → 0 < length xs → unordered_pick xs p < length xs
unordered_within [] p h = absurd (omega arith)
unordered_within (x ∷ xs) p h = mod_below p (suc (length xs)) (omega arith)

pub single_file_within : {X : Type 0} (xs : List X) (p : ℕ) → 0 < length xs → single_file_pick xs p < length xs
single_file_within xs p h = h

-- where one passes, the first that passes stands within the list
first_within : {X : Type 0} (t : X → Bool) (xs : List X) (i : ℕ) (m : X) → slice_get xs i ≡ Some m → t m ≡ true → first_by t xs < length xs
first_within t [] i m e h = absurd cc
first_within t (x ∷ xs) zero m e h =
    let same : x ≡ m = cc in
    let here : t x ≡ true = ap t same ∙ h in
    rw here (omega arith)
first_within t (x ∷ xs) (suc i) m e h =
    let rest = first_within t xs i m e h in
    elim (t x) as (λ b. cond b 0 (suc (first_by t xs)) < suc (length xs)) [ true ↦ omega arith | false ↦ omega arith ]

party_self : (p : Party) → same_party p p ≡ true
party_self (Cache a) = eq-eqb a a refl
party_self Directory = refl
party_self Memory = refl

pair_self : {X : Type 0} (from to : X → Party) (m : X) → same_pair from to m m ≡ true
pair_self from to m = rw (party_self (from m)) (party_self (to m))

oldest_within : {X : Type 0} (from to : X → Party) (xs : List X) (i : ℕ) (o : Option X) → slice_get xs i ≡ o → 0 < length xs → oldest_of_pair from to xs o < length xs
oldest_within from to xs i None e h = h
oldest_within from to xs i (Some m) e h = first_within (same_pair from to m) xs i m e (pair_self from to m)

pub paired_within : {X : Type 0} (from to : X → Party) (xs : List X) (p : ℕ) → 0 < length xs → paired_pick from to xs p < length xs
paired_within from to xs p h = oldest_within from to xs (unordered_pick xs p) _ refl h
