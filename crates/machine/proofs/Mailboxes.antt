-- The first part of the invariant: what a cache still goes by and its mail, by the stage of the set and the cache's role.
use Rattle.std.proofs.Common.{◌≡◌, ℕ, Bool, true, false, cond, eqb, ◌⊎◌, Some, None, MatchBool, Option}
use Rattle.bedrock.specs.declared.words.Words.{Words}
use Rattle.bedrock.specs.declared.party.Party.{Party}
use Rattle.protocols.specs.declared.state.State.{State}
use Rattle.protocols.specs.declared.state.State.TheVariants.{I, S, E, M, O, F}
use Rattle.protocols.specs.States.{may_be_dirty}
use Rattle.messages.specs.declared.command.Command.{Command}
use Rattle.messages.specs.declared.command.Command.TheVariants.{Invalidate, SetStateWriteback, Transfer, SetTagData, SetStateWakeup}
use Rattle.messages.specs.declared.response.Response.{Response}
use Rattle.messages.specs.declared.response.Response.TheVariants.{CoherenceAck}
use Rattle.machine.specs.declared.holding.Entry.{Entry}
use Rattle.machine.specs.declared.transaction.Source.{Source}
use Rattle.machine.specs.declared.transaction.Source.TheVariants.{Memory, OwnCopy, Owner}
use Rattle.machine.specs.declared.transaction.Job.{Job}
use Rattle.machine.specs.Holdings.{no_entry, entry_in, is_write}
use Rattle.machine.proofs.RowLaws.{surely_clean}
use Rattle.machine.proofs.Ghost.{Stage, Evicting, Clearing, Asked, Sent, Filled, Progress, Mail, Nothing, To, From, Mailbox}

-- ---- the role of a cache in a transaction

pub data Role : Type 0 where
  Requestor : Role
  Giver : ℕ → State → State → Bool → Role  -- the owner that hands over: its way, the state shown, its next state, whether it writes back
  Bystander : Role

abbrev pub giver_role : Source → ℕ → Role
giver_role Memory c = Bystander
giver_role OwnCopy c = Bystander
giver_role (Owner o p shown keeps writeback) c = cond (eqb c o) (Giver p shown keeps writeback) Bystander

abbrev pub role : Job → ℕ → Role
role j c = cond (eqb c j.requestor) Requestor (giver_role j.source c)

-- ---- entries of the directory (e) against those that a cache goes by

abbrev pub SameEntries : (ℕ → Entry) → Mailbox → Type 0
SameEntries e x = (w : ℕ) → e w ≡ x.known w

-- but for way p
abbrev pub SameBut : ℕ → (ℕ → Entry) → Mailbox → Type 0
SameBut p e x = (w : ℕ) → (w ≡ p → ⊥) → e w ≡ x.known w

-- no command is out: nothing, or an answer
abbrev pub NoCommand : Mail → Type 0
NoCommand x = (x ≡ Nothing) ⊎ ((r : Response) × (x ≡ From r))

-- a copy that a load hits and a store does not
abbrev pub read_only : State → Bool
read_only I = false
read_only S = true
read_only E = false
read_only M = false
read_only O = true
read_only F = true

-- ---- the requestor

-- its way before it is filled: the copy that an upgrade keeps, else nothing
abbrev pub BeforeFill : Job → Entry → Type 0
BeforeFill j e = MatchBool j.upgrade ((e.block ≡ j.block) × (read_only e.state ≡ true)) (e ≡ no_entry)

-- the way has another block, and a command that empties it is out
pub record Leaving (x : Mailbox) (j : Job) (test : State → Bool) (command : ℕ → Command) : Type 0 where
  pub no_upgrade : j.upgrade ≡ false
  pub block : ℕ
  pub other : block ≡ j.block → ⊥
  pub shown : (x.known j.way).block ≡ block
  pub state : test (x.known j.way).state ≡ true
  pub out : x.mail ≡ To (command block)

-- what the requestor gets when the words are asked for
abbrev pub wakeup_mail : Job → Source → Mail
wakeup_mail j Memory = Nothing
wakeup_mail j OwnCopy = To (SetStateWakeup j.requestor j.block j.way)
wakeup_mail j (Owner o p shown keeps writeback) = Nothing

-- the words of the job's block are on their way in the mail
pub record DataOut (j : Job) (m : Mail) : Type 0 where
  pub words : Words
  pub sender : Party
  pub out : m ≡ To (SetTagData j.requestor j.block j.way j.next words sender)

abbrev pub AsRequestor : Stage → Job → (ℕ → Entry) → Mailbox → Type 0
AsRequestor Evicting j e x = Leaving x j may_be_dirty (λ b. SetStateWriteback j.requestor b j.way)
AsRequestor Clearing j e x =
    (BeforeFill j (x.known j.way) × NoCommand x.mail) ⊎ Leaving x j surely_clean (λ b. Invalidate j.requestor b j.way)
AsRequestor Asked j e x = BeforeFill j (x.known j.way) × (x.mail ≡ wakeup_mail j j.source)
AsRequestor Sent j e x = BeforeFill j (x.known j.way) × DataOut j x.mail
AsRequestor Filled j e x = (e j.way ≡ x.known j.way) × ((x.mail ≡ Nothing) ⊎ (x.mail ≡ From (CoherenceAck j.requestor j.block)))

-- ---- the owner that hands over

-- it still goes by the state that was shown, and this is its mail
abbrev pub StillOwner : Job → ℕ → State → Mailbox → Mail → Type 0
StillOwner j p shown x out = (x.known p ≡ entry_in shown j.block) × (x.mail ≡ out)

abbrev pub AsGiver : Stage → Job → ℕ → ℕ → State → State → Bool → (ℕ → Entry) → Mailbox → Type 0
AsGiver Evicting j c p shown keeps writeback e x = StillOwner j p shown x Nothing
AsGiver Clearing j c p shown keeps writeback e x = StillOwner j p shown x Nothing
AsGiver Asked j c p shown keeps writeback e x =
    StillOwner j p shown x (To (Transfer c j.block p j.requestor j.way keeps j.next writeback))
AsGiver Sent j c p shown keeps writeback e x = (e p ≡ x.known p) × NoCommand x.mail
AsGiver Filled j c p shown keeps writeback e x = (e p ≡ x.known p) × NoCommand x.mail

-- ---- the others

-- a sharer of a block that is written, whose Invalidate is out
pub record Dismissed (e : ℕ → Entry) (x : Mailbox) (j : Job) (c : ℕ) : Type 0 where
  pub place : ℕ
  pub writing : is_write j.access ≡ true
  pub shown : x.known place ≡ entry_in S j.block
  pub final : e place ≡ no_entry
  pub rest : SameBut place e x
  pub out : x.mail ≡ To (Invalidate c j.block place)

abbrev pub AsBystander : Stage → Job → ℕ → (ℕ → Entry) → Mailbox → Type 0
AsBystander Evicting j c e x = (SameEntries e x × NoCommand x.mail) ⊎ Dismissed e x j c
AsBystander Clearing j c e x = (SameEntries e x × NoCommand x.mail) ⊎ Dismissed e x j c
AsBystander Asked j c e x = SameEntries e x × (x.mail ≡ Nothing)
AsBystander Sent j c e x = SameEntries e x × (x.mail ≡ Nothing)
AsBystander Filled j c e x = SameEntries e x × (x.mail ≡ Nothing)

-- ---- all roles

abbrev pub InRole : Progress → ℕ → (ℕ → Entry) → Mailbox → Role → Type 0
InRole h c e x Requestor =
    (e h.job.way ≡ entry_in h.job.next h.job.block) × SameBut h.job.way e x × AsRequestor h.stage h.job e x
InRole h c e x (Giver p shown keeps writeback) =
    (e p ≡ entry_in keeps h.job.block) × SameBut p e x × AsGiver h.stage h.job c p shown keeps writeback e x
InRole h c e x Bystander = AsBystander h.stage h.job c e x

-- without a transaction the cache knows all entries, and nothing is on its way
abbrev pub GoodMailbox : Option Progress → ℕ → (ℕ → Entry) → Mailbox → Type 0
GoodMailbox None c e x = SameEntries e x × (x.mail ≡ Nothing)
GoodMailbox (Some h) c e x = InRole h c e x (role h.job c)
