-- Tables changed at one key: their laws, and that a guarded change is one of these wherever its key is in range.
use Rattle.std.proofs.Common.{◌≡◌, ℕ, ◌<◌, Bool, true, false, cond, eqb, refl, ap, ◌∙◌}
use mathlib.Core.Path.{fun_ext}
use Rattle.std.proofs.lemmas.Bool.{eqb-true, eqb-false, eq-eqb, ne_eqb, lt-ltb}
use Rattle.bedrock.specs.declared.words.Words.{Words}
use Rattle.memory.specs.Blocks.{written}
use Rattle.machine.specs.Tables.{put, put₂, put₃}

-- the table f with v at i, whatever i is
abbrev pub update : {A : Type 0} → (ℕ → A) → ℕ → A → ℕ → A
update f i v j = cond (eqb j i) v (f j)

-- the same with two and with three keys
abbrev pub update₂ : {A : Type 0} → (ℕ → ℕ → A) → ℕ → ℕ → A → ℕ → ℕ → A
update₂ f i j v = update f i (update (f i) j v)

abbrev pub update₃ : {A : Type 0} → (ℕ → ℕ → ℕ → A) → ℕ → ℕ → ℕ → A → ℕ → ℕ → ℕ → A
update₃ f i j k v = update f i (update₂ (f i) j k v)

-- ---- laws: what holds of the new value at the key, and of the old values elsewhere, holds everywhere

pub update_each : {A : Type 0} (P : ℕ → A → Type 0) (f : ℕ → A) (i : ℕ) (v : A) → P i v → ((j : ℕ) → (j ≡ i → ⊥) → P j (f j)) → (j : ℕ)
    → P j (update f i v j)
update_each {A} P f i v here there j = go (eqb j i) refl
  where
    go : (t : Bool) → eqb j i ≡ t → P j (cond t v (f j))
    go true e = rw (eqb-true j i e) here
    go false e = there j (eqb-false j i e)

pub update₂_each : {A : Type 0} (P : ℕ → ℕ → A → Type 0) (f : ℕ → ℕ → A) (i k : ℕ) (v : A) → P i k v
    → ((j l : ℕ) → (j ≡ i → l ≡ k → ⊥) → P j l (f j l)) → (j l : ℕ) → P j l (update₂ f i k v j l)
update₂_each {A} P f i k v here there j l =
    update_each {A = ℕ → A} (λ a h. P a l (h l)) f i (update (f i) k v)
    (update_each (P i) (f i) k v here (λ b n. there i b (λ _ e. n e)) l)
    (λ a n. there a l (λ e _. n e)) j

-- the same of two tables changed at one key
pub update_both : {A B : Type 0} (P : ℕ → A → B → Type 0) (f : ℕ → A) (g : ℕ → B) (i : ℕ) (u : A) (v : B) → P i u v
    → ((j : ℕ) → (j ≡ i → ⊥) → P j (f j) (g j)) → (j : ℕ) → P j (update f i u j) (update g i v j)
update_both {A} {B} P f g i u v here there j = go (eqb j i) refl
  where
    go : (t : Bool) → eqb j i ≡ t → P j (cond t u (f j)) (cond t v (g j))
    go true e = rw (eqb-true j i e) here
    go false e = there j (eqb-false j i e)

pub update₂_both : {A B : Type 0} (P : ℕ → ℕ → A → B → Type 0) (f : ℕ → ℕ → A) (g : ℕ → ℕ → B) (i k : ℕ) (u : A) (v : B) → P i k u v
    → ((j l : ℕ) → (j ≡ i → l ≡ k → ⊥) → P j l (f j l) (g j l)) → (j l : ℕ) → P j l (update₂ f i k u j l) (update₂ g i k v j l)
update₂_both {A} {B} P f g i k u v here there j l =
    update_both {A = ℕ → A} {B = ℕ → B} (λ a h h'. P a l (h l) (h' l)) f g i (update (f i) k u) (update (g i) k v)
    (update_both (P i) (f i) (g i) k u v here (λ b n. there i b (λ _ e. n e)) l)
    (λ a n. there a l (λ e _. n e)) j

-- ---- what stands at a key

pub update_here : {A : Type 0} (f : ℕ → A) (i : ℕ) (v : A) → update f i v i ≡ v
update_here f i v = rw (eq-eqb i i refl)

pub update_there : {A : Type 0} (f : ℕ → A) (i : ℕ) (v : A) (j : ℕ) → (j ≡ i → ⊥) → update f i v j ≡ f j
update_there f i v j n = rw (ne_eqb j i n)

pub update₂_here : {A : Type 0} (f : ℕ → ℕ → A) (i k : ℕ) (v : A) → update₂ f i k v i k ≡ v
update₂_here f i k v = rw (eq-eqb i i refl, eq-eqb k k refl)

pub update₂_there : {A : Type 0} (f : ℕ → ℕ → A) (i k : ℕ) (v : A) (j l : ℕ) → (j ≡ i → l ≡ k → ⊥) → update₂ f i k v j l ≡ f j l
update₂_there f i k v j l n = update₂_each (λ a b z. (a ≡ i → b ≡ k → ⊥) → z ≡ f a b) f i k v (λ m. absurd (m refl refl)) (λ a b _ _. refl) j l n

pub update₃_here : {A : Type 0} (f : ℕ → ℕ → ℕ → A) (i k l : ℕ) (v : A) → update₃ f i k l v i k l ≡ v
update₃_here f i k l v = rw (eq-eqb i i refl, eq-eqb k k refl, eq-eqb l l refl)

-- ---- guarded changes, where the keys are in range

pub put_is : {A : Type 0} (n : ℕ) (f : ℕ → A) (i : ℕ) (v : A) → i < n → put n f i v ≡ update f i v
put_is n f i v l = fun_ext (λ j. rw (lt-ltb i n l) refl)

pub put₂_is : {A : Type 0} (l n : ℕ) (f : ℕ → ℕ → A) (i j : ℕ) (v : A) → i < l → j < n → put₂ l n f i j v ≡ update₂ f i j v
put₂_is l n f i j v p q = put_is l f i (put n (f i) j v) p ∙ ap (update f i) (put_is n (f i) j v q)

pub put₃_is : {A : Type 0} (l m n : ℕ) (f : ℕ → ℕ → ℕ → A) (i j k : ℕ) (v : A) → i < l → j < m → k < n → put₃ l m n f i j k v ≡ update₃ f i j k v
put₃_is l m n f i j k v p q r = put_is l f i (put₂ m n (f i) j k v) p ∙ ap (update f i) (put₂_is m n (f i) j k v q r)

pub written_is : (f : ℕ → Words) (b : ℕ) (v : Words) → b < 1024 → written f b v ≡ update f b v
unfolding written
written_is f b v l = fun_ext (λ k. rw (lt-ltb b 1024 l) refl)
