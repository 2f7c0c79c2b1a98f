-- What round one asks of the requestor and of the sharers, from the machine's entries.
use Rattle.std.proofs.Common.{◌≡◌, ℕ, Bool, true, false, cond, ◌&&◌, ◌⊎◌, List, [], ◌∷◌, Some, None, MatchBool, sym, refl, ap, ◌∙◌, subst, inl, inr, arith}
use Rattle.std.proofs.lemmas.Bool.{false≢true, eq-eqb, ne_eqb}
use Rattle.protocols.specs.declared.state.State.{State}
use Rattle.protocols.specs.declared.state.State.TheVariants.{I, S, E, M, O, F}
use Rattle.protocols.specs.States.{held, may_be_dirty}
use Rattle.messages.specs.declared.request.Request.{Request}
use Rattle.messages.specs.declared.command.Command.{Command}
use Rattle.messages.specs.declared.command.Command.TheVariants.{Invalidate, SetStateWriteback}
use Rattle.machine.specs.declared.holding.Entry.{Entry}
use Rattle.machine.specs.declared.transaction.Job.{Job}
use Rattle.machine.specs.Holdings.{no_entry, is_write}
use Rattle.machine.specs.Machines.{Machine, home}
use Rattle.machine.specs.Directory.{shown_way, shown_state, sharing, or_zero}
use Rattle.machine.specs.Acceptance.{upgrading, job_for}
use Rattle.machine.proofs.RowLaws.{surely_clean, LawfulRow}
use Rattle.machine.proofs.Ghost.{Stage, Evicting, Clearing}
use Rattle.machine.proofs.Mailboxes.{read_only, BeforeFill, AsRequestor}
use Rattle.machine.proofs.Invariant.{Invariant}
use Rattle.machine.proofs.AcceptPlan.{Plan}
use Rattle.machine.proofs.AcceptEntries.{Dismisses, Leaves}
use Rattle.machine.proofs.Matches.{Added, ghost_of}
use Rattle.machine.proofs.ShownEntries.{ShownAt, shown_held, state_at_holds}
use Rattle.machine.proofs.Planning.{in_range, known_is, planned}
use Rattle.machine.proofs.RoundOne.{mail_of, own_command, first_mail}

clean_is : (st : State) → held st ≡ true → may_be_dirty st ≡ false → surely_clean st ≡ true
clean_is I h d = grind arith
clean_is S h d = refl
clean_is E h d = grind arith
clean_is M h d = grind arith
clean_is O h d = grind arith
clean_is F h d = refl

is_S : (st : State) → sharing st ≡ true → st ≡ S
is_S I h = grind arith
is_S S h = refl
is_S E h = grind arith
is_S M h = grind arith
is_S O h = grind arith
is_S F h = grind arith

-- the requestor's part: the stage that round one starts at, and what the mailbox then says
pub record OwnPart (m : Machine) (x : Added) (q : Request) (own : List Command) : Type 0 where
  pub stage : Stage
  pub round_one : (stage ≡ Evicting) ⊎ (stage ≡ Clearing)
  pub mailbox : (f : ℕ → Entry) → AsRequestor stage (job_for m q) f (record {
    known = (x.mailbox (home m q.block) q.cache).known;
    mail = mail_of own;
  })
  pub no_eviction : own ≡ [] → stage ≡ Clearing

pub own_mailbox : (m : Machine) (x : Added) (q : Request) (p : OwnPart m x q (own_command m q)) (f : ℕ → Entry)
    → AsRequestor p.stage (job_for m q) f (record { known = (x.mailbox (home m q.block) q.cache).known; mail = first_mail m q q.cache })
own_mailbox m x q p f = rw (eq-eqb q.cache q.cache refl) (p.mailbox f)

module _ (m : Machine) (x : Added) (inv : Invariant (ghost_of m x)) (lawful : (st : State) → LawfulRow st (m.rows st)) (q : Request)
    (idle : x.progress (home m q.block) ≡ None) (asked : x.request q.cache ≡ Some q) where
  abbrev s : ℕ
  s = home m q.block

  abbrev j : Job
  j = job_for m q

  abbrev known : ℕ → Entry
  known = (x.mailbox s q.cache).known

  plan : Plan m.geometry s (m.entry s) j
  plan = planned m x inv lawful q idle asked

  pub own_part : OwnPart m x q (own_command m q)
  own_part = go (upgrading m q) refl (held v.state) refl (may_be_dirty v.state) refl
    where
      v : Entry
      v = m.entry s q.cache q.way

      is : v ≡ known q.way
      is = known_is m x inv lawful q idle asked q.cache q.way

      go : (t : Bool) → upgrading m q ≡ t → (h : Bool) → held v.state ≡ h → (d : Bool) → may_be_dirty v.state ≡ d
          → OwnPart m x q (cond t [] (cond h (cond d (SetStateWriteback q.cache v.block q.way ∷ [])
          (Invalidate q.cache v.block q.way ∷ [])) []))
      go true u h hi d di = record { stage = Clearing; round_one = inr refl; mailbox = λ f. inl (before, inl refl); no_eviction = λ _. refl }
        where
          before : BeforeFill j (known q.way)
          before = let c = plan.copy u in
              subst (λ z. MatchBool z (((known q.way).block ≡ q.block) × (read_only (known q.way).state ≡ true)) (known q.way ≡ no_entry)) (sym u)
              (ap (λ a. a.block) (sym is) ∙ c.0, ap (λ a. read_only a.state) (sym is) ∙ c.1)
      go false u false hi d di = record { stage = Clearing; round_one = inr refl; mailbox = λ f. inl (before, inl refl); no_eviction = λ _. refl }
        where
          before : BeforeFill j (known q.way)
          before = subst (λ z. MatchBool z (((known q.way).block ≡ q.block) × (read_only (known q.way).state ≡ true)) (known q.way ≡ no_entry))
              (sym u) (sym is ∙ inv.blanks s q.cache q.way hi)
      go false u true hi true di = record {
        stage = Evicting;
        round_one = inl refl;
        mailbox = λ f. record {
          no_upgrade = u;
          block = v.block;
          other = λ k. plan.not_shown u q.way hi k;
          shown = ap (λ a. a.block) (sym is);
          state = ap (λ a. may_be_dirty a.state) (sym is) ∙ di;
          out = refl;
        };
        no_eviction = λ k. cc;
      }
      go false u true hi false di = record {
        stage = Clearing;
        round_one = inr refl;
        mailbox = λ f. inr (record {
          no_upgrade = u;
          block = v.block;
          other = λ k. plan.not_shown u q.way hi k;
          shown = ap (λ a. a.block) (sym is);
          state = ap (λ a. surely_clean a.state) (sym is) ∙ clean_is v.state hi di;
          out = refl;
        });
        no_eviction = λ _. refl;
      }

  -- the others' part
  pub others_part : (c : ℕ) → (c ≡ q.cache → ⊥) → Dismisses (m.entry s) j c (first_mail m q c) ⊎ Leaves (m.entry s) j c (first_mail m q c)
  others_part c n = rw (ne_eqb c q.cache n) (go (is_write q.access) refl (sharing (shown_state m c q.block)) refl)
    where
      go : (t : Bool) → is_write q.access ≡ t → (u : Bool) → sharing (shown_state m c q.block) ≡ u
          → Dismisses (m.entry s) j c (mail_of (cond t (cond (u && true) (Invalidate c q.block (or_zero (shown_way m c q.block)) ∷ []) []) []))
          ⊎ Leaves (m.entry s) j c (mail_of (cond t (cond (u && true) (Invalidate c q.block (or_zero (shown_way m c q.block)) ∷ []) []) []))
      go true w true k = inl (record {
        place = or_zero (shown_way m c q.block);
        writing = w;
        shown = ap (λ z. m.entry s c (or_zero z)) it.shown ∙ shared_entry (m.entry s c it.way) (sym it.state ∙ st) it.block;
        out = refl;
      })
        where
          st : shown_state m c q.block ≡ S
          st = is_S (shown_state m c q.block) k

          it : ShownAt m c q.block
          it = shown_held m c q.block (rw st refl)

          shared_entry : (e : Entry) → e.state ≡ S → e.block ≡ q.block → e ≡ record { state = S; block = q.block }
          shared_entry e h b = λ t. record { state = h t; block = b t }
      go true w false k = inr (record {
        none = refl;
        not_shared = λ _ y a b. false≢true (sym k
            ∙ ap sharing (state_at_holds m (in_range m x inv lawful q idle asked) c q.block y (inv.entries_apart s) (rw a refl) b ∙ a));
      })
      go false w u k = inr (record { none = refl; not_shared = λ a. absurd (false≢true (sym w ∙ a)) })
