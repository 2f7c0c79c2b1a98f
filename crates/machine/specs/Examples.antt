-- Worked examples: short runs, computed on the definitions.
use Rattle.std.specs.Prelude.{◌≡◌, ℕ, false, List, [], ◌∷◌, ◌++◌, replicate, None, Ok, Err}
use Rattle.bedrock.specs.BlockWords.{no_words}
use Rattle.bedrock.specs.Geometries.{Sizes}
use Rattle.protocols.specs.declared.state.State.TheVariants.{I, S, M, O}
use Rattle.protocols.specs.declared.protocol_kind.ProtocolKind.{ProtocolKind}
use Rattle.protocols.specs.declared.protocol_kind.ProtocolKind.TheVariants.{Msi, Mesi, Moesi, Moesif}
use Rattle.protocols.specs.Tables.{read_row}
use Rattle.messages.specs.declared.request.Access.TheVariants as access
use Rattle.messages.specs.declared.command.Command.TheVariants.{Transfer}
use Rattle.machine.specs.declared.order.Order.TheVariants.{Load, Store}
use Rattle.machine.specs.Holdings.{entry_in}
use Rattle.machine.specs.Machines.{Machine, new, with_requests}
use Rattle.machine.specs.Outcomes.{moved_on, loaded, stored, refused}
use Rattle.machine.specs.Questions.{way_asked, entry_asked, kept_asked, count_asked, length_asked, memory_asked}
use Rattle.machine.specs.Runs.{Call, orders, delivers, turns, run, answers}

-- a new fabric over zeros, under a protocol
abbrev pub fresh : Sizes → ProtocolKind → Machine
fresh g p = new g (read_row p) (λ b. no_words)

-- two caches, one set, one way, four blocks; and one cache
abbrev two : Sizes
two = record { caches = 2; sets = 1; ways = 1; blocks = 4 }

abbrev one : Sizes
one = record { caches = 1; sets = 1; ways = 1; blocks = 4 }

abbrev pub after : Machine → List Call → Machine
after m calls = (run m calls).machine

-- ---- a store by cache 0, then a load of the same word by cache 1

abbrev store_then_load : List Call
store_then_load =
    orders 0 (Store 0 0 7) ∷ delivers 0 0 ∷ turns 0 ∷ delivers 1 0 ∷ orders 1 (Load 0 0) ∷ delivers 0 0
    ∷ delivers 2 0 ∷ delivers 0 0 ∷ delivers 1 0 ∷ delivers 1 0 ∷ delivers 2 0 ∷ delivers 2 0 ∷ []

-- its first eight calls, to the acceptance of the load
abbrev to_acceptance : List Call
to_acceptance =
    orders 0 (Store 0 0 7) ∷ delivers 0 0 ∷ turns 0 ∷ delivers 1 0 ∷ orders 1 (Load 0 0) ∷ delivers 0 0 ∷ delivers 2 0 ∷ delivers 0 0 ∷ []

-- under MOESIF the owner keeps the block in O and nothing is written back: the last delivery finds no response
abbrev pub UnderMoesif : Type 0
UnderMoesif = answers (fresh two Moesif) store_then_load
    ≡ (moved_on ∷ moved_on ∷ moved_on ∷ stored 0 7 ∷ moved_on ∷ refused 13 ∷ moved_on ∷ moved_on ∷ moved_on ∷ loaded 1 7 ∷ moved_on ∷ refused 12 ∷ [])

-- under MESI the owner writes back: the count is 2 once the load is accepted, and a memory turn after all leaves 0
pub record UnderMesi : Type 0 where
  pub says : answers (fresh two Mesi) store_then_load
      ≡ (moved_on ∷ moved_on ∷ moved_on ∷ stored 0 7 ∷ moved_on ∷ refused 13 ∷ moved_on ∷ moved_on ∷ moved_on ∷ loaded 1 7 ∷ moved_on ∷ moved_on ∷ [])
  pub accepted : (after (fresh two Mesi) to_acceptance).count 0 ≡ 2
  pub written_back : (after (fresh two Mesi) (store_then_load ++ turns 0 ∷ [])).count 0 ≡ 0
  pub memory : memory_asked (after (fresh two Mesi) (store_then_load ++ turns 0 ∷ [])) 0 0 ≡ Ok 7

-- ---- an upgrade whose copy is invalidated while it waits

-- a load of block 0 by a cache, to its end
abbrev share_by : ℕ → List Call
share_by c = orders c (Load 0 0) ∷ delivers 0 0 ∷ turns 0 ∷ delivers 1 0 ∷ delivers 2 0 ∷ []

-- both caches share block 0, both ask to store, and cache 1's request arrives first and is carried out
abbrev overtaken : List Call
overtaken =
    share_by 0 ++ (share_by 1 ++ (orders 0 (Store 0 0 5) ∷ orders 1 (Store 0 0 6) ∷ delivers 0 1 ∷ delivers 1 0 ∷ delivers 2 0 ∷ delivers 1 0 ∷ delivers 2 0 ∷ []))

-- cache 0's Write is then no upgrade: the words come from cache 1, and its store comes after cache 1's
pub record LostUpgrade : Type 0 where
  pub first : answers (after (fresh two Msi) (share_by 0 ++ share_by 1)) (orders 0 (Store 0 0 5) ∷ orders 1 (Store 0 0 6) ∷ delivers 0 1 ∷ delivers 1 0 ∷ delivers 2 0 ∷ delivers 1 0 ∷ delivers 2 0 ∷ [])
      ≡ (moved_on ∷ moved_on ∷ moved_on ∷ moved_on ∷ moved_on ∷ stored 1 6 ∷ moved_on ∷ [])
  pub transfers : (after (fresh two Msi) (overtaken ++ delivers 0 0 ∷ [])).commands ≡ (Transfer 1 0 0 0 0 I M false ∷ [])
  pub second : answers (after (fresh two Msi) overtaken) (delivers 0 0 ∷ delivers 1 0 ∷ delivers 1 0 ∷ delivers 2 0 ∷ orders 0 (Load 0 0) ∷ orders 1 (Load 0 0) ∷ [])
      ≡ (moved_on ∷ moved_on ∷ stored 0 5 ∷ moved_on ∷ loaded 0 5 ∷ moved_on ∷ [])

-- ---- a block in M makes room for another

abbrev store_to_end : List Call
store_to_end = orders 0 (Store 0 0 9) ∷ delivers 0 0 ∷ turns 0 ∷ delivers 1 0 ∷ delivers 2 0 ∷ []

-- accepting the load of block 1 leaves 2, the Coherence Ack and the Writeback; the Writeback's delivery leaves 3, the Coherence Ack, the
-- memory write and the memory read
pub record Victim : Type 0 where
  pub accepted : (after (fresh one Msi) (store_to_end ++ (orders 0 (Load 1 0) ∷ delivers 0 0 ∷ []))).count 0 ≡ 2
  pub written_back : (after (fresh one Msi) (store_to_end ++ (orders 0 (Load 1 0) ∷ delivers 0 0 ∷ delivers 1 0 ∷ delivers 2 0 ∷ []))).count 0 ≡ 3

-- an upgrade with no other holder awaits the Coherence Ack only
abbrev pub PlainUpgrade : Type 0
PlainUpgrade = (after (fresh one Msi) (share_by 0 ++ (orders 0 (Store 0 0 1) ∷ delivers 0 0 ∷ []))).count 0 ≡ 1

-- ---- an upgrade where another cache owns the block in O

abbrev owned : List Call
owned = store_to_end ++ (orders 1 (Load 0 0) ∷ delivers 0 0 ∷ delivers 1 0 ∷ delivers 1 0 ∷ delivers 2 0 ∷ [])

-- the owner gets the Transfer, and not the requestor a Wakeup
pub record OwnedUpgrade : Type 0 where
  pub shows : ((after (fresh two Moesi) owned).entry 0 0 0 ≡ entry_in O 0) × ((after (fresh two Moesi) owned).entry 0 1 0 ≡ entry_in S 0)
  pub transfers : (after (fresh two Moesi) (owned ++ (orders 1 (Store 0 1 4) ∷ delivers 0 0 ∷ []))).commands ≡ (Transfer 0 0 0 1 0 I M false ∷ [])
  pub says : answers (after (fresh two Moesi) owned) (orders 1 (Store 0 1 4) ∷ delivers 0 0 ∷ delivers 1 0 ∷ delivers 1 0 ∷ orders 1 (Load 0 0) ∷ [])
      ≡ (moved_on ∷ moved_on ∷ moved_on ∷ stored 1 4 ∷ loaded 1 9 ∷ [])

-- ---- a refusal of each number that a call or a question can give

abbrev crowd : Machine
crowd = with_requests (fresh two Msi) (replicate 128 (record { access = access.Read; cache = 0; block = 0; way = 0 }))

pub record Refusals : Type 0 where
  pub calls : answers (fresh two Msi) (orders 2 (Load 0 0) ∷ orders 0 (Load 4 0) ∷ orders 0 (Load 0 2) ∷ delivers 3 0 ∷ orders 0 (Load 0 0) ∷ orders 0 (Load 1 1) ∷ delivers 1 0 ∷ turns 0 ∷ [])
      ≡ (refused 1 ∷ refused 2 ∷ refused 3 ∷ refused 4 ∷ moved_on ∷ refused 11 ∷ refused 12 ∷ refused 12 ∷ [])
  pub full : answers crowd (orders 0 (Load 0 0) ∷ []) ≡ (refused 14 ∷ [])
  pub questions : (way_asked (fresh two Msi) 2 0 0 ≡ Err 1) × (entry_asked (fresh two Msi) 0 1 0 ≡ Err 10) × (way_asked (fresh two Msi) 0 0 1 ≡ Err 10)
      × (kept_asked (fresh two Msi) 1 ≡ Ok None) × (count_asked (fresh two Msi) 1 ≡ Err 10) × (length_asked (fresh two Msi) 4 ≡ Err 4)
      × (memory_asked (fresh two Msi) 4 0 ≡ Err 2) × (memory_asked (fresh two Msi) 0 2 ≡ Err 3)

-- all of them
pub record Worked : Type 0 where
  pub under_moesif : UnderMoesif
  pub under_mesi : UnderMesi
  pub lost_upgrade : LostUpgrade
  pub victim : Victim
  pub plain_upgrade : PlainUpgrade
  pub owned_upgrade : OwnedUpgrade
  pub refusals : Refusals
