-- An order that misses keeps the invariant: the cache waits, and its request goes out.
use Rattle.std.proofs.Common.{◌≡◌, ℕ, ◌<◌, Bool, true, false, Some, None, MatchBool, Option, sym, refl, ap, ◌∙◌, arith}
use Rattle.bedrock.specs.Geometries.{set_of}
use Rattle.protocols.specs.States.{held}
use Rattle.machine.specs.declared.order.Order.{Order}
use Rattle.machine.specs.Holdings.{block_of, access_of, is_write}
use Rattle.machine.proofs.Updates.{update_each}
use Rattle.machine.proofs.Ghost.{Progress, Waiter, Ghost, set_waiter}
use Rattle.machine.proofs.Mailboxes.{read_only}
use Rattle.machine.proofs.Invariant.{serves, Served, Asks, GoodWait, InRange, GoodPlace, Invariant}

-- a copy of the block, if the cache has one, is read only and where the request says, and the order is a store
pub miss_keeps : (g : Ghost) → Invariant g → (c w : ℕ) (o : Order) → (g.waiter c).kept ≡ None
    → (c < g.geometry.caches) × (w < g.geometry.ways) × (block_of o < g.geometry.blocks)
    → ((x : ℕ) → held ((g.mailbox (set_of g.geometry (block_of o)) c).known x).state ≡ true
    → ((g.mailbox (set_of g.geometry (block_of o)) c).known x).block ≡ block_of o
    → (x ≡ w) × (is_write (access_of o) ≡ true) × (read_only ((g.mailbox (set_of g.geometry (block_of o)) c).known x).state ≡ true))
    → Invariant (set_waiter g c (record { kept = Some o; request = Some (record { access = access_of o; cache = c; block = block_of o; way = w }) }))
miss_keeps g inv c w o free room at = record {
  mailboxes = inv.mailboxes;
  jobs = inv.jobs;
  entries_apart = inv.entries_apart;
  entries_home = inv.entries_home;
  blanks = inv.blanks;
  pendings = inv.pendings;
  pending_ranges = inv.pending_ranges;
  copies_apart = inv.copies_apart;
  copies_home = inv.copies_home;
  agrees = inv.agrees;
  copies = inv.copies;
  mails = inv.mails;
  newest = inv.newest;
  waits = λ s. update_each (λ a z. GoodWait g.geometry s (g.progress s) a z) g.waiter c d (wait_new s (g.progress s) (inv.waits s c))
      (λ a _. inv.waits s a);
  asks = update_each (λ a z. z.kept ≡ None → z.request ≡ None) g.waiter c d (λ e. grind arith) (λ a _. inv.asks a);
  ranges = update_each (λ a z. InRange g.geometry a z) g.waiter c d
      (λ q e. let i : w ≡ q.way = cc in let k : block_of o ≡ q.block = cc in
      (room.0, rw (← i) room.1, rw (← k) room.2)) (λ a _. inv.ranges a);
  places = λ s. update_each (λ a z. GoodPlace (g.mailbox s a) z) g.waiter c d (place_new s) (λ a _. inv.places s a);
}
  where
    d : Waiter
    d = record { kept = Some o; request = Some (record { access = access_of o; cache = c; block = block_of o; way = w }) }

    asks_new : (p : Order) → d.kept ≡ Some p → Asks c d p
    asks_new p e = let i : o ≡ p = cc in record { way = w; request = rw i refl }

    wait_new : (s : ℕ) (h : Option Progress) → GoodWait g.geometry s h c (g.waiter c) → GoodWait g.geometry s h c d
    wait_new s None ok = λ p e _. asks_new p e
    wait_new s (Some h) ok = go (serves (Some h) c) ok
      where
        go : (t : Bool) → MatchBool t (Served h.job (g.waiter c))
            ((p : Order) → (g.waiter c).kept ≡ Some p → set_of g.geometry (block_of p) ≡ s → Asks c (g.waiter c) p)
            → MatchBool t (Served h.job d) ((p : Order) → d.kept ≡ Some p → set_of g.geometry (block_of p) ≡ s → Asks c d p)
        go true q = grind arith
        go false q = λ p e _. asks_new p e

    place_new : (s : ℕ) → GoodPlace (g.mailbox s c) d
    place_new s q i x hd bl =
        let bq : block_of o ≡ q.block = cc in
        let sq : set_of g.geometry (block_of o) ≡ s = ap (set_of g.geometry) (bq ∙ sym bl) ∙ (inv.copies_home s c x hd).0 in
        let r = at x (rw sq hd) (rw sq (bl ∙ sym bq)) in
        let wq : w ≡ q.way = cc in let kq : access_of o ≡ q.access = cc in (r.0 ∙ wq, ap is_write (sym kq) ∙ r.1, rw sq at r.2)
