-- While a call of the directory is under way, a machine and its ghost state match but for what is left of one set's round.
use Rattle.std.proofs.Common.{◌≡◌, ℕ, ◌+◌, cond, eqb, ◌⊎◌, List, [], ◌∷◌, ◌++◌, map, filter, sym, refl, ◌∙◌, inl, inr, arith}
use Rattle.std.proofs.lemmas.Bool.{cases_eq, eq-eqb, ne_eqb, and_from}
use Rattle.bedrock.specs.Geometries.{Sizes, set_of}
use Rattle.messages.specs.declared.command.Command.{Command}
use Rattle.messages.specs.declared.response.Response.{Response}
use Rattle.messages.specs.Messages.{command_cache, command_block}
use Rattle.machine.specs.Machines.{Machine}
use Rattle.machine.proofs.Keys.{kept_push_no, kept_push_yes}
use Rattle.machine.proofs.Weights.{weigh, weigh_push}
use Rattle.machine.proofs.Ghost.{Nothing, To, From}
use Rattle.machine.proofs.Matches.{Added, mail_slot, pending_slot, request_slot, to_mailbox, from_mailbox, at_block, writes_back, pending_of, pending_in, command_weight, response_weight, memory_weight, command_one, ack_owed, Left, SameProgress, Matches}
use Rattle.machine.proofs.Lifting.{both_none}

pub record AlmostMatches (m : Machine) (x : Added) (s : ℕ) : Type 0 where
  pub serving : (t : ℕ) → SameProgress (m.serving t) (x.progress t)
  pub requests : (c : ℕ) → filter (λ q. eqb q.cache c) m.requests ≡ request_slot (x.request c)
  pub mails : (t c : ℕ)
      → map To (filter (to_mailbox m.geometry t c) m.commands) ++ map From (filter (from_mailbox m.geometry t c) m.responses)
      ≡ mail_slot (x.mailbox t c).mail
  pub pendings : (b : ℕ)
      → map pending_of (filter (at_block b) m.memory_commands) ++ map pending_in (filter (writes_back b) m.responses) ≡ pending_slot (x.pending b)
  pub weights : (t : ℕ) → m.count t ≡ weigh (command_weight m.geometry t) m.commands
      + (weigh (response_weight m.geometry t) m.responses + (weigh (memory_weight m.geometry t) m.memory_commands + ack_owed (m.serving t)))
  pub left : (t : ℕ) → (t ≡ s → ⊥)
      → Left (m.serving t) (weigh (command_one m.geometry t) m.commands + weigh (response_weight m.geometry t) m.responses)

-- and for that too
pub all_match : (m : Machine) (x : Added) (s : ℕ) → AlmostMatches m x s
    → Left (m.serving s) (weigh (command_one m.geometry s) m.commands + weigh (response_weight m.geometry s) m.responses) → Matches m x
all_match m x s a here = record {
  serving = a.serving;
  requests = a.requests;
  mails = a.mails;
  pendings = a.pendings;
  weights = a.weights;
  left = λ t. all t (cases_eq t s);
}
  where
    all : (t : ℕ) → (t ≡ s) ⊎ (t ≡ s → ⊥)
        → Left (m.serving t) (weigh (command_one m.geometry t) m.commands + weigh (response_weight m.geometry t) m.responses)
    all t (inl p) = rw p here
    all t (inr n) = a.left t n

-- ---- a command goes out to a cache of a set that is quiet

module _ (n : Sizes) (s : ℕ) (cs : List Command) (k : Command) (e : set_of n (command_block k) ≡ s) where
  pub sent_here : (rs : List Response) (c : ℕ) → map To (filter (to_mailbox n s c) cs) ++ map From (filter (from_mailbox n s c) rs) ≡ []
      → map To (filter (to_mailbox n s c) (cs ++ k ∷ [])) ++ map From (filter (from_mailbox n s c) rs)
      ≡ mail_slot (cond (eqb c (command_cache k)) (To k) Nothing)
  sent_here rs c q = go (cases_eq c (command_cache k))
    where
      z : (filter (to_mailbox n s c) cs ≡ []) × (filter (from_mailbox n s c) rs ≡ [])
      z = both_none To From (filter (to_mailbox n s c) cs) (filter (from_mailbox n s c) rs) q

      go : (c ≡ command_cache k) ⊎ (c ≡ command_cache k → ⊥)
          → map To (filter (to_mailbox n s c) (cs ++ k ∷ [])) ++ map From (filter (from_mailbox n s c) rs)
          ≡ mail_slot (cond (eqb c (command_cache k)) (To k) Nothing)
      go (inl i) = rw (
        kept_push_yes (to_mailbox n s c) cs k (and_from (eqb (set_of n (command_block k)) s) (eqb (command_cache k) c)
            (eq-eqb (set_of n (command_block k)) s e) (eq-eqb (command_cache k) c (sym i))),
        z.0,
        z.1,
        eq-eqb c (command_cache k) i,
      ) refl
      go (inr i) = rw (
        kept_push_no (to_mailbox n s c) cs k
            (rw (ne_eqb (command_cache k) c (λ j. i (sym j)), eq-eqb (set_of n (command_block k)) s e) refl),
        ne_eqb c (command_cache k) i,
      ) q

  -- other sets do not see it
  pub sent_there : (t c : ℕ) → (t ≡ s → ⊥) → filter (to_mailbox n t c) (cs ++ k ∷ []) ≡ filter (to_mailbox n t c) cs
  sent_there t c i = kept_push_no (to_mailbox n t c) cs k (rw (ne_eqb (set_of n (command_block k)) t (λ j. i (sym j ∙ e))) refl)

  pub ones_there : (t : ℕ) → (t ≡ s → ⊥) → weigh (command_one n t) (cs ++ k ∷ []) ≡ weigh (command_one n t) cs
  ones_there t i = let u = rw (ne_eqb (set_of n (command_block k)) t (λ j. i (sym j ∙ e))) at (weigh_push (command_one n t) cs k) in omega arith
