-- What holds of every machine that a run reaches, together with its ghost state. Each part takes just what it speaks of.
use Rattle.std.proofs.Common.{◌≡◌, ℕ, ◌<◌, Bool, true, false, ◌&&◌, ◌||◌, eqb, ◌⊎◌, Some, None, MatchBool, Option}
use Rattle.bedrock.specs.declared.words.Words.{Words}
use Rattle.bedrock.specs.declared.party.Party.{Party}
use Rattle.bedrock.specs.Geometries.{Sizes, set_of}
use Rattle.protocols.specs.declared.state.State.{State}
use Rattle.protocols.specs.declared.state.State.TheVariants.{S, M, O, F}
use Rattle.protocols.specs.States.{held, owning, writable, dirty}
use Rattle.messages.specs.declared.request.Request.{Request}
use Rattle.messages.specs.declared.command.Command.TheVariants.{SetTagData}
use Rattle.machine.specs.declared.holding.Way.{Way}
use Rattle.machine.specs.declared.holding.Entry.{Entry}
use Rattle.machine.specs.declared.order.Order.{Order}
use Rattle.machine.specs.declared.transaction.Source.{Source}
use Rattle.machine.specs.declared.transaction.Source.TheVariants.{Memory, OwnCopy, Owner}
use Rattle.machine.specs.declared.transaction.Job.{Job}
use Rattle.machine.specs.Holdings.{no_entry, block_of, access_of, is_write}
use Rattle.machine.specs.Directory.{sharing}
use Rattle.machine.specs.Coherence.{Agrees}
use Rattle.machine.proofs.Ghost.{Stage, Evicting, Clearing, Asked, Sent, Filled, Progress, at_stage, Mail, To, Mailbox, Waiter, Pending, Idle, Reading, Coming, Waiting, BlockAtMemory, Ghost}
use Rattle.machine.proofs.Mailboxes.{read_only, GoodMailbox}

-- ---- entries, and copies as the caches know them, exclude one another

-- the states in which two caches may hold one block
abbrev pub go_together : State → State → Bool
go_together a b = (sharing a && read_only b) || (read_only a && sharing b)

-- two entries, of caches c and d, that show one block
abbrev pub Apart : ℕ → Entry → ℕ → Entry → Type 0
Apart c e d f = held e.state ≡ true → held f.state ≡ true → e.block ≡ f.block → (c ≡ d → ⊥) × (go_together e.state f.state ≡ true)

-- any two entries of a set
abbrev pub AllApart : (ℕ → ℕ → Entry) → Type 0
AllApart f = (c w d x : ℕ) → (c ≡ d → w ≡ x → ⊥) → Apart c (f c w) d (f d x)

-- what is held is of a block that there is, in the block's set, at a cache and a way that there are
abbrev pub AtHome : Sizes → ℕ → ℕ → ℕ → Entry → Type 0
AtHome n s c w e = held e.state ≡ true → (set_of n e.block ≡ s) × (c < n.caches) × (w < n.ways) × (e.block < n.blocks)

-- an entry in I shows zeros
abbrev pub Blank : Entry → Type 0
Blank e = held e.state ≡ false → e ≡ no_entry

-- ---- the job of a set

-- an owner that hands over: what it had and keeps, and why no store is lost
pub record OwnerLaw (j : Job) (o p : ℕ) (shown keeps : State) (writeback : Bool) : Type 0 where
  pub other : o ≡ j.requestor → ⊥
  pub owned : owning shown ≡ true
  pub lets_go : writable keeps ≡ false
  pub covered : (shown ≡ F) ⊎ ((writeback ≡ true) ⊎ ((keeps ≡ O) ⊎ (dirty j.next ≡ true)))

-- words come from the memory only where every other cache that shows the block shows S
abbrev pub GoodSource : Job → (ℕ → ℕ → Entry) → Source → Type 0
GoodSource j f Memory =
    (j.upgrade ≡ false) × ((c w : ℕ) → (c ≡ j.requestor → ⊥) → held (f c w).state ≡ true → (f c w).block ≡ j.block → (f c w).state ≡ S)
GoodSource j f OwnCopy = j.upgrade ≡ true
GoodSource j f (Owner o p shown keeps writeback) = OwnerLaw j o p shown keeps writeback

-- a job: it is about a block of the set, a Write gives M, an upgrade is a Write
pub record GoodJob (n : Sizes) (s : ℕ) (f : ℕ → ℕ → Entry) (j : Job) : Type 0 where
  pub here : set_of n j.block ≡ s
  pub gets : held j.next ≡ true
  pub writes : is_write j.access ≡ true → j.next ≡ M
  pub upgrades : j.upgrade ≡ true → is_write j.access ≡ true
  pub source : GoodSource j f j.source

abbrev pub GoodProgress : Sizes → ℕ → (ℕ → ℕ → Entry) → Option Progress → Type 0
GoodProgress n s f None = Unit {0}
GoodProgress n s f (Some h) = GoodJob n s f h.job

-- ---- a cache that waits has a request on its way, or a set serves it; never both

-- the requestor still waits for the words
abbrev pub unfilled : Stage → Bool
unfilled Evicting = true
unfilled Clearing = true
unfilled Asked = true
unfilled Sent = true
unfilled Filled = false

-- the set serves cache c
abbrev pub serves : Option Progress → ℕ → Bool
serves None c = false
serves (Some h) c = unfilled h.stage && eqb c h.job.requestor

-- the order that the cache waits with is the job's, and the request is gone
pub record Served (j : Job) (d : Waiter) : Type 0 where
  pub order : Order
  pub kept : d.kept ≡ Some order
  pub block : block_of order ≡ j.block
  pub access : access_of order ≡ j.access
  pub no_request : d.request ≡ None

-- the cache has a request for the order on its way
pub record Asks (c : ℕ) (d : Waiter) (o : Order) : Type 0 where
  pub way : ℕ
  pub request : d.request ≡ Some (record { access = access_of o; cache = c; block = block_of o; way = way })

-- a cache that waits with an order about a block of set s
abbrev pub GoodWait : Sizes → ℕ → Option Progress → ℕ → Waiter → Type 0
GoodWait n s None c d = (o : Order) → d.kept ≡ Some o → set_of n (block_of o) ≡ s → Asks c d o
GoodWait n s (Some h) c d = MatchBool (serves (Some h) c) (Served h.job d) ((o : Order) → d.kept ≡ Some o → set_of n (block_of o) ≡ s → Asks c d o)

-- a request is of a cache, for a way and a block, that there are
abbrev pub InRange : Sizes → ℕ → Waiter → Type 0
InRange n c d = (q : Request) → d.request ≡ Some q → (c < n.caches) × (q.way < n.ways) × (q.block < n.blocks)

-- while a request waits, a copy of its block is where the request says; it is read only, and the request is for a store
abbrev pub GoodPlace : Mailbox → Waiter → Type 0
GoodPlace x d = (q : Request) → d.request ≡ Some q → (w : ℕ) → held (x.known w).state ≡ true → (x.known w).block ≡ q.block
    → (w ≡ q.way) × (is_write q.access ≡ true) × (read_only (x.known w).state ≡ true)

-- ---- what is on its way to and from the memory

abbrev pub is_reading : Pending → Bool
is_reading Idle = false
is_reading (Reading c w st) = true
is_reading (Coming ws) = false
is_reading (Waiting ws) = false

-- the memory read of a job
abbrev pub read_for : Job → Source → Pending
read_for j Memory = Reading j.requestor j.way j.next
read_for j OwnCopy = Idle
read_for j (Owner o p shown keeps writeback) = Idle

-- what may be on its way for block b at each stage
abbrev pub PendingAt : Stage → Job → ℕ → Pending → Type 0
PendingAt Evicting j b p = p ≡ Idle
PendingAt Clearing j b p = (is_reading p ≡ false) × (b ≡ j.block → p ≡ Idle)
PendingAt Asked j b p = (b ≡ j.block → p ≡ read_for j j.source) × ((b ≡ j.block → ⊥) → is_reading p ≡ false)
PendingAt Sent j b p = is_reading p ≡ false
PendingAt Filled j b p = is_reading p ≡ false

abbrev pub GoodPending : Option Progress → ℕ → Pending → Type 0
GoodPending None b p = p ≡ Idle
GoodPending (Some h) b p = PendingAt h.stage h.job b p

-- of a block that there is
abbrev pub PendingInRange : Sizes → ℕ → Pending → Type 0
PendingInRange n b p = (p ≡ Idle) ⊎ (b < n.blocks)

-- ---- words: every copy, and all data on its way, is the latest

-- the words that the memory has, or will have once what is on its way has arrived
abbrev pub newest_at : Pending → Words → Words
newest_at Idle ws = ws
newest_at (Reading c w st) ws = ws
newest_at (Coming new) ws = new
newest_at (Waiting new) ws = new

abbrev pub GoodCopy : (ℕ → BlockAtMemory) → Way → Type 0
GoodCopy blocks v = held v.state ≡ true → v.words ≡ (blocks v.block).latest

abbrev pub GoodMail : (ℕ → BlockAtMemory) → Mail → Type 0
GoodMail blocks x = (c b w : ℕ) (st : State) (ws : Words) (sender : Party) → x ≡ To (SetTagData c b w st ws sender) → ws ≡ (blocks b).latest

-- a copy of block b, among the ways of its set, that may differ from the memory's words
pub record DirtyCopy (v : ℕ → ℕ → Way) (b : ℕ) : Type 0 where
  pub cache : ℕ
  pub way : ℕ
  pub state : dirty (v cache way).state ≡ true
  pub block : (v cache way).block ≡ b

-- words of block b on their way to a requestor that will hold them dirty
pub record DirtyOnTheWay (h : Option Progress) (b : ℕ) : Type 0 where
  pub job : Job
  pub sent : h ≡ Some (at_stage Sent job)
  pub state : dirty job.next ≡ true
  pub block : job.block ≡ b

-- the memory's newest words are the latest, unless there is a dirty copy, or one on its way
abbrev pub Newest : (ℕ → ℕ → Way) → Option Progress → ℕ → BlockAtMemory → Type 0
Newest v h b k = (newest_at k.pending k.memory ≡ k.latest) ⊎ (DirtyCopy v b ⊎ DirtyOnTheWay h b)

-- ---- all of it

pub record Invariant (g : Ghost) : Type 0 where
  pub mailboxes : (s c : ℕ) → GoodMailbox (g.progress s) c (g.entry s c) (g.mailbox s c)
  pub jobs : (s : ℕ) → GoodProgress g.geometry s (g.entry s) (g.progress s)
  pub entries_apart : (s : ℕ) → AllApart (g.entry s)
  pub copies_apart : (s : ℕ) → AllApart (λ c. (g.mailbox s c).known)
  pub entries_home : (s c w : ℕ) → AtHome g.geometry s c w (g.entry s c w)
  pub blanks : (s c w : ℕ) → Blank (g.entry s c w)
  pub copies_home : (s c w : ℕ) → AtHome g.geometry s c w ((g.mailbox s c).known w)
  pub waits : (s c : ℕ) → GoodWait g.geometry s (g.progress s) c (g.waiter c)
  pub asks : (c : ℕ) → (g.waiter c).kept ≡ None → (g.waiter c).request ≡ None
  pub ranges : (c : ℕ) → InRange g.geometry c (g.waiter c)
  pub places : (s c : ℕ) → GoodPlace (g.mailbox s c) (g.waiter c)
  pub pendings : (b : ℕ) → GoodPending (g.progress (set_of g.geometry b)) b (g.at_memory b).pending
  pub pending_ranges : (b : ℕ) → PendingInRange g.geometry b (g.at_memory b).pending
  pub agrees : (s c w : ℕ) → Agrees ((g.mailbox s c).known w) (g.way s c w)
  pub copies : (s c w : ℕ) → GoodCopy g.at_memory (g.way s c w)
  pub mails : (s c : ℕ) → GoodMail g.at_memory (g.mailbox s c).mail
  pub newest : (b : ℕ) → Newest (g.way (set_of g.geometry b)) (g.progress (set_of g.geometry b)) b (g.at_memory b)
