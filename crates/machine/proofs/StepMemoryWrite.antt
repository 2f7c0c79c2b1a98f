-- Words on their way to the memory: a Writeback that goes on, and a memory write that is done, keep the invariant.
use Rattle.std.proofs.Common.{◌≡◌, ℕ, ◌<◌, Some, None, Option, sym, refl, ◌∙◌, inl, inr, arith}
use Rattle.bedrock.specs.declared.words.Words.{Words}
use Rattle.bedrock.specs.Geometries.{set_of}
use Rattle.machine.specs.declared.transaction.Source.{Source}
use Rattle.machine.specs.declared.transaction.Source.TheVariants.{Memory, OwnCopy, Owner}
use Rattle.machine.proofs.Updates.{update, update_each}
use Rattle.machine.proofs.Ghost.{Stage, Evicting, Clearing, Asked, Sent, Filled, Progress, Idle, Coming, Waiting, BlockAtMemory, Ghost, set_block}
use Rattle.machine.proofs.Invariant.{read_for, PendingAt, GoodPending, PendingInRange, newest_at, Newest, Invariant}
use Rattle.machine.proofs.BlockFrames.{pending_ranges_after, latest_same}

-- what is on its way for a block changes, and neither its newest words nor its latest
pub block_keeps : (g : Ghost) → Invariant g → (b : ℕ) (k : BlockAtMemory) → k.latest ≡ (g.at_memory b).latest
    → newest_at k.pending k.memory ≡ newest_at (g.at_memory b).pending (g.at_memory b).memory
    → GoodPending (g.progress (set_of g.geometry b)) b k.pending → PendingInRange g.geometry b k.pending → Invariant (set_block g b k)
block_keeps g inv b k cur new ok range = record {
  mailboxes = inv.mailboxes;
  jobs = inv.jobs;
  entries_apart = inv.entries_apart;
  entries_home = inv.entries_home;
  blanks = inv.blanks;
  waits = inv.waits;
  asks = inv.asks;
  ranges = inv.ranges;
  copies_apart = inv.copies_apart;
  copies_home = inv.copies_home;
  places = inv.places;
  agrees = inv.agrees;
  pendings = update_each (λ i z. GoodPending (g.progress (set_of g.geometry i)) i z.pending) g.at_memory b k ok (λ i _. inv.pendings i);
  pending_ranges = pending_ranges_after g inv b k range;
  copies = λ s c w h. inv.copies s c w h ∙ sym (same (g.way s c w).block);
  mails = λ s c d i w st ws sender e. inv.mails s c d i w st ws sender e ∙ sym (same i);
  newest = update_each (λ i z. Newest (g.way (set_of g.geometry i)) (g.progress (set_of g.geometry i)) i z) g.at_memory b k
      (elim (inv.newest b) [ inl q ↦ inl (new ∙ q ∙ sym cur) | inr q ↦ inr q ]) (λ i _. inv.newest i);
}
  where
    same : (i : ℕ) → (update g.at_memory b k i).latest ≡ (g.at_memory i).latest
    same = latest_same g.at_memory b k cur

-- what a Writeback may have on its way, a memory write may
waiting_good : (h : Option Progress) (b : ℕ) (ws : Words) → GoodPending h b (Coming ws) → GoodPending h b (Waiting ws)
waiting_good None b ws ok = grind arith
waiting_good (Some h) b ws ok = go h.stage ok
  where
    go : (s : Stage) → PendingAt s h.job b (Coming ws) → PendingAt s h.job b (Waiting ws)
    go Evicting ok = grind arith
    go Clearing ok = (refl, λ e. let z = ok.1 e in cc)
    go Asked ok = ((λ e. let z = ok.0 e in absurd (none h.job.source z)), λ _. refl)
      where
        none : (r : Source) → Coming ws ≡ read_for h.job r → ⊥
        none Memory e = grind arith
        none OwnCopy e = grind arith
        none (Owner o p shown keeps writeback) e = grind arith
    go Sent ok = refl
    go Filled ok = refl

-- the directory passes the words of a Writeback on to the memory
pub pass_on_keeps : (g : Ghost) → Invariant g → (b : ℕ) (ws : Words) → (g.at_memory b).pending ≡ Coming ws
    → Invariant (set_block g b (record { memory = (g.at_memory b).memory; pending = Waiting ws; latest = (g.at_memory b).latest }))
pass_on_keeps g inv b ws p =
    block_keeps g inv b (record { memory = (g.at_memory b).memory; pending = Waiting ws; latest = (g.at_memory b).latest }) refl (rw p)
    (waiting_good (g.progress (set_of g.geometry b)) b ws (rw p at (inv.pendings b))) (inr (coming_range (inv.pending_ranges b)))
  where
    coming_range : PendingInRange g.geometry b (g.at_memory b).pending → b < g.geometry.blocks
    coming_range (inl i) = grind arith
    coming_range (inr l) = l

-- and so may nothing
idle_good : (h : Option Progress) (b : ℕ) (ws : Words) → GoodPending h b (Waiting ws) → GoodPending h b Idle
idle_good None b ws ok = refl
idle_good (Some h) b ws ok = go h.stage ok
  where
    go : (s : Stage) → PendingAt s h.job b (Waiting ws) → PendingAt s h.job b Idle
    go Evicting ok = refl
    go Clearing ok = (refl, λ e. refl)
    go Asked ok = ((λ e. let z = ok.0 e in absurd (none h.job.source z)), λ _. refl)
      where
        none : (r : Source) → Waiting ws ≡ read_for h.job r → ⊥
        none Memory e = grind arith
        none OwnCopy e = grind arith
        none (Owner o p shown keeps writeback) e = grind arith
    go Sent ok = refl
    go Filled ok = refl

-- the memory takes them
pub memory_write_keeps : (g : Ghost) → Invariant g → (b : ℕ) (ws : Words) → (g.at_memory b).pending ≡ Waiting ws
    → Invariant (set_block g b (record { memory = ws; pending = Idle; latest = (g.at_memory b).latest }))
memory_write_keeps g inv b ws p = block_keeps g inv b (record { memory = ws; pending = Idle; latest = (g.at_memory b).latest }) refl (rw p)
    (idle_good (g.progress (set_of g.geometry b)) b ws (rw p at (inv.pendings b))) (inl refl)
