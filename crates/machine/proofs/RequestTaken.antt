-- The request that the directory takes is its cache's, and the cache waits with its order.
use Rattle.std.proofs.Common.{◌≡◌, ℕ, Bool, true, false, eqb, [], Some, None, MatchBool, filter, Option, sym, refl, ap, ◌∙◌}
use Rattle.std.specs.List.{slice_get}
use Rattle.std.proofs.lemmas.Bool.{eq-eqb}
use Rattle.bedrock.specs.Geometries.{Sizes, set_of}
use Rattle.messages.specs.declared.request.Request.{Request}
use Rattle.wires.specs.Waiting.{without}
use Rattle.machine.specs.declared.order.Order.{Order}
use Rattle.machine.specs.declared.transaction.Job.{Job}
use Rattle.machine.specs.Holdings.{block_of, access_of}
use Rattle.machine.specs.Machines.{Machine}
use Rattle.machine.proofs.Updates.{update}
use Rattle.machine.proofs.Keys.{taken_one, kept_none}
use Rattle.machine.proofs.Ghost.{Progress, Waiter, Ghost}
use Rattle.machine.proofs.Invariant.{serves, Served, Asks, GoodWait, Invariant}
use Rattle.machine.proofs.Frames.{none_some}
use Rattle.machine.proofs.Matches.{Added, request_slot, Matches}
use Rattle.machine.proofs.Lifting.{update_id, waiter_of_parts, waiter_update}

-- request q is at place i
pub took_request : (m : Machine) (x : Added) → Matches m x → (i : ℕ) (q : Request) → slice_get m.requests i ≡ Some q
    → (x.request q.cache ≡ Some q) × (filter (λ (a : Request). eqb a.cache q.cache) (without m.requests i) ≡ [])
took_request m x sh i q e = go (x.request q.cache) refl
  where
    p : Request → Bool
    p = λ a. eqb a.cache q.cache

    go : (z : Option Request) → x.request q.cache ≡ z → (x.request q.cache ≡ Some q) × (filter p (without m.requests i) ≡ [])
    go None k = absurd (kept_none p m.requests i q e (eq-eqb q.cache q.cache refl) (sh.requests q.cache ∙ ap request_slot k))
    go (Some y) k = let o = taken_one p m.requests i q y e (eq-eqb q.cache q.cache refl) (sh.requests q.cache ∙ ap request_slot k) in
        (k ∙ ap (λ a. Some a) (sym o.0), o.1)

-- a cache with a request is not served yet, so its order is what it asks for
asks_it : (n : Sizes) (t : ℕ) (h : Option Progress) (c : ℕ) (d : Waiter) (o : Order) (q : Request) → GoodWait n t h c d → d.kept ≡ Some o
    → set_of n (block_of o) ≡ t → d.request ≡ Some q → Asks c d o
asks_it n t None c d o q ok k b r = ok o k b
asks_it n t (Some h) c d o q ok k b r = go (serves (Some h) c) ok
  where
    go : (v : Bool) → MatchBool v (Served h.job d) ((o : Order) → d.kept ≡ Some o → set_of n (block_of o) ≡ t → Asks c d o) → Asks c d o
    go true u = absurd (none_some q (sym u.no_request ∙ r))
    go false u = u o k b

pub served_by : (g : Ghost) → Invariant g → (q : Request) (j : Job) → (g.waiter q.cache).request ≡ Some q → j.block ≡ q.block
    → j.access ≡ q.access → Served j (record { kept = (g.waiter q.cache).kept; request = None })
served_by g inv q j r jb ja = go (g.waiter q.cache).kept refl
  where
    go : (k : Option Order) → (g.waiter q.cache).kept ≡ k → Served j (record { kept = (g.waiter q.cache).kept; request = None })
    go None k = absurd (none_some q (sym (inv.asks q.cache k) ∙ r))
    go (Some o) k =
        let s : ℕ = set_of g.geometry (block_of o) in
        let a = asks_it g.geometry s (g.progress s) q.cache (g.waiter q.cache) o q (inv.waits s q.cache) k refl r in
        let u = a.request in
        let z : q ≡ record { access = access_of o; cache = q.cache; block = block_of o; way = a.way } = cc in
        record { order = o; kept = k; block = sym (jb ∙ ap (λ y. y.block) z); access = sym (ja ∙ ap (λ y. y.access) z); no_request = refl }

-- the waiters of a ghost state without the request
pub waiter_request : (ke : ℕ → Option Order) (re : ℕ → Option Request) (r : ℕ)
    → update (λ (c : ℕ). (waiter_of_parts ke re c)) r (record { kept = ke r; request = None }) ≡ (λ (c : ℕ). waiter_of_parts ke (update re r None) c)
waiter_request ke re r = waiter_update ke re r (ke r) None
    ∙ ap (λ (z : ℕ → Option Order). (λ (i : ℕ). waiter_of_parts z (update re r None) i)) (update_id ke r (ke r) refl)
