-- A read and a write, of a function from block to words.
use Rattle.std.specs.Prelude.{◌≡◌, ℕ, zero, suc, ◌<◌, ◌≤◌, Bool, true, false, cond, ◌≢◌, List, length, replicate, ◌==◌, slice_index_or, slice_set, refl}
use Rattle.std.proofs.Common.{Some, None, Option, ap, ◌∙◌}
use Rattle.std.specs.Option.{unwrap_or, UnwrapsOrElse}
use Rattle.std.proofs.Math.Path.{fun_ext}
use Rattle.std.proofs.lemmas.List.{get_or-set_same, get_or-set_other}
use Rattle.std.proofs.lemmas.Bool.{eqb-true, eqb-false, lt-ltb, le-ltb}
use Rattle.bedrock.specs.declared.words.Words.{Words}
use Rattle.bedrock.specs.BlockWords.{words_of, no_words}
use Rattle.memory.specs.Blocks.{empty_blocks, written, table_blocks}

-- every place of a list of one value shows it, and so do the places past the end
pub all_same : {X : Type 0} (n k : ℕ) (x : X) → slice_index_or (replicate n x) k x ≡ x
all_same zero k x = refl
all_same (suc n) zero x = refl
all_same (suc n) (suc k) x = all_same n k x

-- blocks that have the words at b, and are as before elsewhere, are the blocks after a write
module _ (f h : ℕ → Words) (b : ℕ) (words : Words) (here : h b ≡ words) (other : (k : ℕ) → k ≢ b → h k ≡ f k) where
  at : (k : ℕ) (t : Bool) → (k == b) ≡ t → h k ≡ cond t words (f k)
  at k true e = ap h (eqb-true k b e) ∙ here
  at k false e = other k (eqb-false k b e)

  pub written_inside : b < 1024 → h ≡ written f b words
  unfolding written
  written_inside lt = fun_ext (λ k. rw (lt-ltb b 1024 lt) (at k (k == b) refl))

pub written_outside : (f : ℕ → Words) (b : ℕ) (words : Words) → 1024 ≤ b → f ≡ written f b words
unfolding written
written_outside f b words le = fun_ext (λ k. rw (le-ltb b 1024 le) refl)

-- the words that the default gives
pub default_is : (words : Words) → (words.first ≡ 0) × (words.second ≡ 0) → words ≡ no_words
default_is words e = ap (λ a. words_of a words.second) e.0 ∙ ap (λ b. words_of 0 b) e.1

pub table_read : (rows : List Words) (b : ℕ) (o : Option Words) (r : Words) → ((d : Words) → unwrap_or o d ≡ slice_index_or rows b d)
    → UnwrapsOrElse o (λ w. (w.first ≡ 0) × (w.second ≡ 0)) r → r ≡ table_blocks rows b
unfolding table_blocks
table_read rows b None r found read = default_is r read ∙ found no_words
table_read rows b (Some w) r found read = read ∙ found no_words

pub table_empty : (n : ℕ) → table_blocks (replicate n no_words) ≡ empty_blocks
unfolding table_blocks empty_blocks
table_empty n = fun_ext (λ b. all_same n b no_words)

pub table_write : (rows : List Words) (b : ℕ) (words : Words) → length rows ≡ 1024 → b < 1024 → table_blocks (slice_set rows b words) ≡ written (table_blocks rows) b words
unfolding table_blocks
table_write rows b words sized lt =
    written_inside (table_blocks rows) (table_blocks (slice_set rows b words)) b words
    (get_or-set_same rows b words no_words (rw sized lt))
    (λ k ne. get_or-set_other rows b k words no_words ne)
    lt
