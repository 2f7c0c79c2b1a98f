-- Shared by the lifts of steps from ghost states to machines.
use Rattle.std.proofs.Common.{◌≡◌, ℕ, ◌+◌, ◌<◌, Bool, true, false, cond, ◌&&◌, eqb, List, [], ◌∷◌, ◌++◌, map, Some, None, filter, Option, sym, refl, ap, ◌∙◌, subst, arith}
use mathlib.Core.Path.{fun_ext}
use Rattle.std.specs.List.{slice_get}
use Rattle.std.proofs.lemmas.Bool.{eq-eqb, and_from}
use Rattle.std.proofs.lemmas.Bool.Decides.{nat_tests}
use Rattle.bedrock.specs.declared.words.Words.{Words}
use Rattle.bedrock.specs.Geometries.{Sizes, set_of}
use Rattle.messages.specs.declared.request.Request.{Request}
use Rattle.messages.specs.declared.command.Command.{Command}
use Rattle.messages.specs.declared.response.Response.{Response}
use Rattle.messages.specs.Messages.{command_cache, command_block, response_cache, response_block}
use Rattle.wires.specs.Waiting.{without}
use Rattle.machine.specs.declared.holding.Way.{Way}
use Rattle.machine.specs.declared.holding.Entry.{Entry}
use Rattle.machine.specs.declared.order.Order.{Order}
use Rattle.machine.specs.declared.transaction.Job.{Job}
use Rattle.machine.specs.declared.transaction.Round.{Round}
use Rattle.machine.specs.declared.transaction.Round.TheVariants.{Two}
use Rattle.machine.specs.declared.transaction.Transaction.{Transaction}
use Rattle.machine.specs.Tables.{put, put₃}
use Rattle.machine.specs.Machines.{Machine, home}
use Rattle.machine.proofs.Updates.{update, update₂, update₃, update_each, update₂_each, update_here, update_there, put_is, put₃_is}
use Rattle.machine.proofs.Keys.{taken_other, kept_push_no, kept_push_yes}
use Rattle.machine.proofs.Weights.{weigh, weigh_taken, weigh_push}
use Rattle.machine.proofs.Ranges.{Bounds, set_below, cache_below, way_below}
use Rattle.machine.proofs.Ghost.{Stage, at_stage, Nothing, To, From, Mailbox, Waiter, Pending, BlockAtMemory, Ghost}
use Rattle.machine.proofs.Matches.{Added, Matches, to_mailbox, from_mailbox, mail_slot, took_command, command_weight, response_weight, memory_weight, command_one, ack_owed, Left, LeftIn, SameProgress, InRound}

-- ---- guarded tables of a machine within its bounds

-- one way of a cache that there is, in the set of a block
pub way_put : (m : Machine) → Bounds m.geometry → (b c w : ℕ) (v : Way) → c < m.geometry.caches → w < m.geometry.ways
    → put₃ 16 8 4 m.way (home m b) c w v ≡ update₃ m.way (home m b) c w v
way_put m bounds b c w v p q = put₃_is 16 8 4 m.way (home m b) c w v (set_below m.geometry bounds b) (cache_below m.geometry bounds c p)
    (way_below m.geometry bounds w q)

-- a table by caches, and one by sets
pub cache_put : {A : Type 0} (m : Machine) → Bounds m.geometry → (f : ℕ → A) (c : ℕ) (v : A) → c < m.geometry.caches → put 8 f c v ≡ update f c v
cache_put m bounds f c v p = put_is 8 f c v (cache_below m.geometry bounds c p)

pub set_put : {A : Type 0} (m : Machine) → Bounds m.geometry → (f : ℕ → A) (b : ℕ) (v : A) → put 16 f (home m b) v ≡ update f (home m b) v
set_put m bounds f b v = put_is 16 f (home m b) v (set_below m.geometry bounds b)

-- the ghost state of a machine, by the machine's tables
abbrev pub ghost_in : Sizes → (ℕ → ℕ → ℕ → Entry) → (ℕ → ℕ → ℕ → Way) → (ℕ → Option Order) → (ℕ → Words) → Added → Ghost
ghost_in n entries ways kept memory x = record {
  geometry = n;
  entry = entries;
  way = ways;
  mailbox = x.mailbox;
  progress = x.progress;
  waiter = λ c. record { kept = kept c; request = x.request c };
  at_memory = λ b. record { memory = memory b; pending = x.pending b; latest = x.latest b };
}

-- ---- tables

-- what already stands at a key
pub update_id : {A : Type 0} (f : ℕ → A) (i : ℕ) (v : A) → v ≡ f i → update f i v ≡ f
update_id f i v e = fun_ext (update_each (λ j z. z ≡ f j) f i v e (λ j _. refl))

-- the same key twice, and two keys of one row
pub update_over : {A : Type 0} (f : ℕ → A) (i : ℕ) (u v : A) → update (update f i u) i v ≡ update f i v
update_over f i u v = fun_ext (λ j. go j (eqb j i))
  where
    go : (j : ℕ) (t : Bool) → cond t v (cond t u (f j)) ≡ cond t v (f j)
    go j true = refl
    go j false = refl

pub update_twice : {A : Type 0} (f : ℕ → ℕ → A) (s c d : ℕ) (u v : A) → update₂ (update₂ f s c u) s d v ≡ update f s (update (update (f s) c u) d v)
update_twice {A} f s c d u v = ap (λ (g : ℕ → A). update (update₂ f s c u) s (update g d v)) (update_here f s (update (f s) c u))
    ∙ update_over f s (update (f s) c u) (update (update (f s) c u) d v)

-- the blocks of a ghost state, by their parts
abbrev pub block_of_parts : (ℕ → Words) → (ℕ → Pending) → (ℕ → Words) → ℕ → BlockAtMemory
block_of_parts me pe la i = record { memory = me i; pending = pe i; latest = la i }

pub block_update : (me : ℕ → Words) (pe : ℕ → Pending) (la : ℕ → Words) (b : ℕ) (p : Pending) (v : Words)
    → update (λ (i : ℕ). (block_of_parts me pe la i)) b (record { memory = me b; pending = p; latest = v })
    ≡ (λ (i : ℕ). block_of_parts me (update pe b p) (update la b v) i)
block_update me pe la b p v = fun_ext (update_each (λ i z. z ≡ block_of_parts me (update pe b p) (update la b v) i)
    (λ (i : ℕ). (block_of_parts me pe la i)) b
    (record { memory = me b; pending = p; latest = v })
    (λ t. record { memory = me b; pending = sym (update_here pe b p) t; latest = sym (update_here la b v) t })
    (λ i n t. record { memory = me i; pending = sym (update_there pe b p i n) t; latest = sym (update_there la b v i n) t }))

pub block_pending : (me : ℕ → Words) (pe : ℕ → Pending) (la : ℕ → Words) (b : ℕ) (p : Pending)
    → update (λ (i : ℕ). (block_of_parts me pe la i)) b (record { memory = me b; pending = p; latest = la b })
    ≡ (λ (i : ℕ). block_of_parts me (update pe b p) la i)
block_pending me pe la b p = block_update me pe la b p (la b)
    ∙ ap (λ (z : ℕ → Words). (λ (i : ℕ). block_of_parts me (update pe b p) z i)) (update_id la b (la b) refl)

pub block_latest : (me : ℕ → Words) (pe : ℕ → Pending) (la : ℕ → Words) (b : ℕ) (v : Words)
    → update (λ (i : ℕ). (block_of_parts me pe la i)) b (record { memory = me b; pending = pe b; latest = v })
    ≡ (λ (i : ℕ). block_of_parts me pe (update la b v) i)
block_latest me pe la b v = block_update me pe la b (pe b) v
    ∙ ap (λ (z : ℕ → Pending). (λ (i : ℕ). block_of_parts me z (update la b v) i)) (update_id pe b (pe b) refl)

-- the waiters of a ghost state, by their parts
abbrev pub waiter_of_parts : (ℕ → Option Order) → (ℕ → Option Request) → ℕ → Waiter
waiter_of_parts ke re i = record { kept = ke i; request = re i }

pub waiter_update : (ke : ℕ → Option Order) (re : ℕ → Option Request) (c : ℕ) (o : Option Order) (q : Option Request)
    → update (λ (i : ℕ). (waiter_of_parts ke re i)) c (record { kept = o; request = q })
    ≡ (λ (i : ℕ). waiter_of_parts (update ke c o) (update re c q) i)
waiter_update ke re c o q = fun_ext (update_each (λ i z. z ≡ waiter_of_parts (update ke c o) (update re c q) i) (λ (i : ℕ). (waiter_of_parts ke re i)) c
    (record { kept = o; request = q })
    (λ t. record { kept = sym (update_here ke c o) t; request = sym (update_here re c q) t })
    (λ i n t. record { kept = sym (update_there ke c o i n) t; request = sym (update_there re c q i n) t }))

pub waiter_done : (ke : ℕ → Option Order) (re : ℕ → Option Request) (c : ℕ) → re c ≡ None
    → update (λ (i : ℕ). (waiter_of_parts ke re i)) c (record { kept = None; request = None }) ≡ (λ (i : ℕ). waiter_of_parts (update ke c None) re i)
waiter_done ke re c e = waiter_update ke re c None None
    ∙ ap (λ (z : ℕ → Option Request). (λ (i : ℕ). waiter_of_parts (update ke c None) z i)) (update_id re c None (sym e))

-- ---- lists

-- two lists that together are empty
pub both_none : {A B C : Type 0} (f : A → C) (h : B → C) (us : List A) (vs : List B) → map f us ++ map h vs ≡ [] → (us ≡ []) × (vs ≡ [])
both_none f h [] [] e = (refl, refl)
both_none f h [] (v ∷ vs) e = (refl, cc)
both_none f h (u ∷ us) vs e = (cc, cc)

-- a key that is another
pub other_key : (a b s c : ℕ) → (s ≡ a → c ≡ b → ⊥) → (eqb a s && eqb b c) ≡ false
other_key a b s c n = grind (arith, nat_tests)

-- a command is taken and its mailbox answers
module _ (m : Machine) (x : Added) (ok : Matches m x) (i : ℕ) (k : Command) (e : slice_get m.commands i ≡ Some k) (r : Response)
    (same_block : response_block r ≡ command_block k) (same_cache : response_cache r ≡ command_cache k) where
  pub answered_mails : (z : Mailbox) → z.mail ≡ From r → (t d : ℕ)
      → map To (filter (to_mailbox m.geometry t d) (without m.commands i))
      ++ map From (filter (from_mailbox m.geometry t d) (m.responses ++ r ∷ []))
      ≡ mail_slot (update₂ x.mailbox (home m (command_block k)) (command_cache k) z t d).mail
  answered_mails z zm = update₂_each (λ t d z. map To (filter (to_mailbox n t d) (without m.commands i))
      ++ map From (filter (from_mailbox n t d) (m.responses ++ r ∷ [])) ≡ mail_slot z.mail) x.mailbox s c z
      (rw (
        there.1,
        kept_push_yes (from_mailbox n s c) m.responses r
            (rw (same_block, same_cache) (and_from (eqb s s) (eqb c c) (eq-eqb s s refl) (eq-eqb c c refl))),
        there.2,
        zm,
      ) refl)
      (λ t d a. rw (
        taken_other (to_mailbox n t d) m.commands i k e (other_key s c t d a),
        kept_push_no (from_mailbox n t d) m.responses r (rw (same_block, same_cache) (other_key s c t d a)),
      ) (ok.mails t d))
    where
      n : Sizes
      n = m.geometry

      s : ℕ
      s = home m (command_block k)

      c : ℕ
      c = command_cache k

      there : ((x.mailbox s c).mail ≡ To k) × (filter (to_mailbox n s c) (without m.commands i) ≡ [])
          × (filter (from_mailbox n s c) m.responses ≡ [])
      there = took_command m x ok i k e s c refl refl

  pub answered_weights : (t : ℕ) → command_weight m.geometry t k ≡ command_one m.geometry t k
      → m.count t ≡ weigh (command_weight m.geometry t) (without m.commands i)
      + (weigh (response_weight m.geometry t) (m.responses ++ r ∷ [])
      + (weigh (memory_weight m.geometry t) m.memory_commands + ack_owed (m.serving t)))
  answered_weights t one =
      let h = ok.weights t in
      let u = weigh_taken (command_weight m.geometry t) m.commands i k e in
      let v = weigh_push (response_weight m.geometry t) m.responses r in
      let q : response_weight m.geometry t r ≡ command_one m.geometry t k = rw same_block refl in omega arith

  pub answered_left : (t : ℕ)
      → Left (m.serving t) (weigh (command_one m.geometry t) (without m.commands i)
      + weigh (response_weight m.geometry t) (m.responses ++ r ∷ []))
  answered_left t =
      let u = weigh_taken (command_one m.geometry t) m.commands i k e in
      let v = weigh_push (response_weight m.geometry t) m.responses r in
      let w : response_weight m.geometry t r ≡ command_one m.geometry t k = rw same_block refl in
      let q : weigh (command_one m.geometry t) m.commands + weigh (response_weight m.geometry t) m.responses
      ≡ weigh (command_one m.geometry t) (without m.commands i)
      + weigh (response_weight m.geometry t) (m.responses ++ r ∷ []) = omega arith in
      subst (Left (m.serving t)) q (ok.left t)

-- a command is sent to a mailbox with no mail
pub sent_mails : (n : Sizes) (cs : List Command) (rs : List Response) (f : ℕ → ℕ → Mailbox)
    → ((t d : ℕ) → map To (filter (to_mailbox n t d) cs) ++ map From (filter (from_mailbox n t d) rs) ≡ mail_slot (f t d).mail)
    → (k : Command) → (f (set_of n (command_block k)) (command_cache k)).mail ≡ Nothing → (z : Mailbox) → z.mail ≡ To k → (t d : ℕ)
    → map To (filter (to_mailbox n t d) (cs ++ k ∷ [])) ++ map From (filter (from_mailbox n t d) rs)
    ≡ mail_slot (update₂ f (set_of n (command_block k)) (command_cache k) z t d).mail
sent_mails n cs rs f mails k quiet z zm = update₂_each
    (λ t d z. map To (filter (to_mailbox n t d) (cs ++ k ∷ [])) ++ map From (filter (from_mailbox n t d) rs) ≡ mail_slot z.mail) f s c z
    (rw (kept_push_yes (to_mailbox n s c) cs k (and_from (eqb s s) (eqb c c) (eq-eqb s s refl) (eq-eqb c c refl)), none.0, none.1, zm) refl)
    (λ t d a. rw (kept_push_no (to_mailbox n t d) cs k (other_key s c t d a)) (mails t d))
  where
    s : ℕ
    s = set_of n (command_block k)

    c : ℕ
    c = command_cache k

    none : (filter (to_mailbox n s c) cs ≡ []) × (filter (from_mailbox n s c) rs ≡ [])
    none = both_none To From (filter (to_mailbox n s c) cs) (filter (from_mailbox n s c) rs) (rw quiet at (mails s c))

-- a command is taken and its mailbox has no mail then
pub taken_mails : (m : Machine) (x : Added) → Matches m x → (i : ℕ) (k : Command) → slice_get m.commands i ≡ Some k → (z : Mailbox) → z.mail ≡ Nothing
    → (t d : ℕ) → map To (filter (to_mailbox m.geometry t d) (without m.commands i))
    ++ map From (filter (from_mailbox m.geometry t d) m.responses)
    ≡ mail_slot (update₂ x.mailbox (home m (command_block k)) (command_cache k) z t d).mail
taken_mails m x ok i k e z zm = update₂_each (λ t d z. map To (filter (to_mailbox n t d) (without m.commands i))
    ++ map From (filter (from_mailbox n t d) m.responses) ≡ mail_slot z.mail) x.mailbox s c z
    (rw (there.1, there.2, zm) refl)
    (λ t d a. rw (taken_other (to_mailbox n t d) m.commands i k e (other_key s c t d a)) (ok.mails t d))
  where
    n : Sizes
    n = m.geometry

    s : ℕ
    s = home m (command_block k)

    c : ℕ
    c = command_cache k

    there : ((x.mailbox s c).mail ≡ To k) × (filter (to_mailbox n s c) (without m.commands i) ≡ [])
        × (filter (from_mailbox n s c) m.responses ≡ [])
    there = took_command m x ok i k e s c refl refl

-- ---- the transaction of a set

-- progress goes on in the same round
pub progress_on : (t : Option Transaction) (j : Job) (a b : Stage) → ((r : Round) → InRound a r → InRound b r)
    → SameProgress t (Some (at_stage a j)) → SameProgress t (Some (at_stage b j))
progress_on None j a b on q = q
progress_on (Some t) j a b on q = (q.0, on t.round q.1)

-- in round two nothing is counted down
pub left_two : (t : Option Transaction) (j : Job) (st : Stage) → ((r : Round) → InRound st r → r ≡ Two) → SameProgress t (Some (at_stage st j))
    → (n : ℕ) → Left t n
left_two None j st two q n = absurd q
left_two (Some t) j st two q n = subst (λ r. LeftIn r n) (sym (two t.round q.1)) tt
