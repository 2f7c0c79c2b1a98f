-- A store that hits keeps the invariant.
use Rattle.std.proofs.Common.{◌≡◌, ℕ, Bool, true, false, ◌⊎◌, MatchBool, sym, refl, ap, ◌∙◌, inl, inr}
use Rattle.std.proofs.lemmas.Bool.{false≢true, cases_eq}
use Rattle.bedrock.specs.declared.words.Words.{Words}
use Rattle.bedrock.specs.declared.party.Party.{Party}
use Rattle.bedrock.specs.Geometries.{set_of}
use Rattle.protocols.specs.declared.state.State.{State}
use Rattle.protocols.specs.declared.state.State.TheVariants.{I, S, E, M, O, F}
use Rattle.protocols.specs.States.{writable}
use Rattle.messages.specs.declared.command.Command.TheVariants.{SetTagData}
use Rattle.machine.specs.declared.holding.Way.{Way}
use Rattle.machine.specs.declared.holding.Entry.{Entry}
use Rattle.machine.specs.declared.transaction.Job.{Job}
use Rattle.machine.specs.Holdings.{no_entry, entry_in}
use Rattle.machine.specs.Coherence.{Agrees}
use Rattle.machine.proofs.Updates.{update, update₃, update_each, update₂_each, update_here, update_there, update₃_here}
use Rattle.machine.proofs.Ghost.{To, BlockAtMemory, Ghost, set_way, set_block}
use Rattle.machine.proofs.Mailboxes.{role, read_only, BeforeFill}
use Rattle.machine.proofs.Invariant.{GoodJob, GoodPending, Newest, Invariant}
use Rattle.machine.proofs.StateFacts.{shows_store, writable_held, writable_alone, held_entry}
use Rattle.machine.proofs.Frames.{dirty_after, copies_after}
use Rattle.machine.proofs.BlockFrames.{pending_ranges_after}
use Rattle.machine.proofs.MailFacts.{DataFacts, data_facts, sent_at, requestor_is}
use Rattle.machine.proofs.Promises.{known_writable, sole_place}

-- before the fill the requestor has no copy that a store hits
pub before_not_writable : (j : Job) (e : Entry) → BeforeFill j e → writable e.state ≡ true → ⊥
before_not_writable j e b h = go j.upgrade b
  where
    read_only_not : (st : State) → read_only st ≡ true → writable st ≡ true → ⊥
    read_only_not I l k = false≢true l
    read_only_not S l k = false≢true k
    read_only_not E l k = false≢true l
    read_only_not M l k = false≢true l
    read_only_not O l k = false≢true k
    read_only_not F l k = false≢true k

    go : (t : Bool) → MatchBool t ((e.block ≡ j.block) × (read_only e.state ≡ true)) (e ≡ no_entry) → ⊥
    go true q = read_only_not e.state q.1 h
    go false q = false≢true (rw q at h)

-- no data of a block is on its way while a store hits a copy of it
pub no_data : (g : Ghost) → Invariant g → (s c w : ℕ) → writable (g.way s c w).state ≡ true
    → (t a d k x : ℕ) (st : State) (ws : Words) (sender : Party)
    → (g.mailbox t a).mail ≡ To (SetTagData d k x st ws sender) → k ≡ (g.way s c w).block → ⊥
no_data g inv s c w h t a d k x st ws sender m e = go (cases_eq c a) (cases_eq w j.way)
  where
    q : DataFacts (g.progress t) a (g.entry t a) (g.mailbox t a) d k x st
    q = data_facts (g.progress t) a (g.entry t a) (g.mailbox t a) d k x st ws sender m (inv.mailboxes t a)

    j : Job
    j = q.job

    ok : GoodJob g.geometry t (g.entry t) j
    ok = rw q.progress at (inv.jobs t)

    wr₀ : writable ((g.mailbox s c).known w).state ≡ true
    wr₀ = known_writable g inv s c w h

    bl₀ : ((g.mailbox s c).known w).block ≡ j.block
    bl₀ = (inv.agrees s c w).block ∙ sym e ∙ q.block

    sets : s ≡ t
    sets = sym (inv.copies_home s c w (writable_held ((g.mailbox s c).known w).state wr₀)).0 ∙ ap (set_of g.geometry) bl₀ ∙ ok.here

    wr : writable ((g.mailbox t c).known w).state ≡ true
    wr = rw sets at wr₀

    bl : ((g.mailbox t c).known w).block ≡ j.block
    bl = rw sets at bl₀

    en : ((entry_in j.next j.block).state ≡ j.next) × ((entry_in j.next j.block).block ≡ j.block)
    en = held_entry j.next j.block ok.gets

    apart : (c ≡ a → w ≡ j.way → ⊥) → ⊥
    apart n =
        let same : g.entry t c w ≡ (g.mailbox t c).known w = sent_at j (role j c) c (g.entry t c) (g.mailbox t c)
        (rw q.progress at (inv.mailboxes t c)) w (λ i. n (requestor_is j c i ∙ sym (requestor_is j a q.is_requestor))) in
        let beside = inv.entries_apart t c w a j.way n (rw same (writable_held ((g.mailbox t c).known w).state wr))
        (rw (q.entry, en.0) ok.gets) (rw (same, q.entry, en.1) bl) in
        writable_alone ((g.mailbox t c).known w).state (g.entry t a j.way).state wr (rw same at beside.1)

    own : c ≡ a → w ≡ j.way → ⊥
    own p i = before_not_writable j ((g.mailbox t a).known j.way) q.before (rw (p, i) at wr)

    go : (c ≡ a) ⊎ (c ≡ a → ⊥) → (w ≡ j.way) ⊎ (w ≡ j.way → ⊥) → ⊥
    go (inl p) (inl i) = own p i
    go (inl p) (inr n) = apart (λ _ i. n i)
    go (inr n) (inl i) = apart (λ p _. n p)
    go (inr n) (inr _) = apart (λ p _. n p)

-- the way takes M and the new words, which are now the latest
abbrev pub after_store : Ghost → ℕ → ℕ → ℕ → ℕ → Words → Ghost
after_store g s c w b ws = set_block (set_way g s c w (record { state = M; block = b; words = ws })) b
    (record { memory = (g.at_memory b).memory; pending = (g.at_memory b).pending; latest = ws })

pub store_keeps : (g : Ghost) → Invariant g → (s c w b : ℕ) (ws : Words) → (g.way s c w).block ≡ b → writable (g.way s c w).state ≡ true
    → Invariant (after_store g s c w b ws)
store_keeps g inv s c w b ws e h = record {
  mailboxes = inv.mailboxes;
  jobs = inv.jobs;
  entries_apart = inv.entries_apart;
  entries_home = inv.entries_home;
  blanks = inv.blanks;
  waits = inv.waits;
  asks = inv.asks;
  ranges = inv.ranges;
  copies_apart = inv.copies_apart;
  copies_home = inv.copies_home;
  places = inv.places;
  pendings = update_each (λ i z. GoodPending (g.progress (set_of g.geometry i)) i z.pending) g.at_memory b k (inv.pendings b)
      (λ i _. inv.pendings i);
  pending_ranges = pending_ranges_after g inv b k (inv.pending_ranges b);
  agrees = update₂_each (λ t d f. (x : ℕ) → Agrees ((g.mailbox t d).known x) (f x)) g.way s c (update (g.way s c) w v)
      (update_each (λ x z. Agrees ((g.mailbox s c).known x) z) (g.way s c) w v
      (record {
        state = shows_store ((g.mailbox s c).known w).state (g.way s c w).state (inv.agrees s c w).state h;
        block = (inv.agrees s c w).block ∙ e;
      })
      (λ x _. inv.agrees s c x))
      (λ t d _. inv.agrees t d);
  copies = copies_after g (update g.at_memory b k) s c w v (λ _. ap (λ z. z.latest) (sym (update_here g.at_memory b k)))
      (λ t d x n l. inv.copies t d x l ∙ sym (ap (λ z. z.latest) (update_there g.at_memory b k (g.way t d x).block
      (λ i. let r = sole_place g inv s c w t d x h l (e ∙ sym i) in r.1 (λ p q. n r.0 (sym p) (sym q))))));
  mails = λ t d a i x st us sender m. inv.mails t d a i x st us sender m
      ∙ sym (ap (λ z. z.latest) (update_there g.at_memory b k i (λ q. no_data g inv s c w h t d a i x st us sender m (q ∙ sym e))));
  newest = update_each (λ i z. Newest (update₃ g.way s c w v (set_of g.geometry i)) (g.progress (set_of g.geometry i)) i z) g.at_memory b k
      (inr (inl (record {
        cache = c;
        way = w;
        state = rw (home, update₃_here g.way s c w v) refl;
        block = rw (home, update₃_here g.way s c w v) refl;
      })))
      (λ i _. elim (inv.newest i) [
        | inl q ↦ inl q
        | inr q ↦ inr (elim q [ inl u ↦ inl (dirty_after g.way s c w v (λ _. (refl, sym e)) (set_of g.geometry i) i u) | inr u ↦ inr u ])
      ]);
}
  where
    v : Way
    v = record { state = M; block = b; words = ws }

    k : BlockAtMemory
    k = record { memory = (g.at_memory b).memory; pending = (g.at_memory b).pending; latest = ws }

    home : set_of g.geometry b ≡ s
    home = ap (set_of g.geometry) (sym ((inv.agrees s c w).block ∙ e))
        ∙ (inv.copies_home s c w (writable_held ((g.mailbox s c).known w).state (known_writable g inv s c w h))).0
