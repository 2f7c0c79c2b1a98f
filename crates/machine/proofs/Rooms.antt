-- No list is longer than its channel has places, so a count is far below the end of its 16 bits.
use Rattle.std.proofs.Common.{◌≡◌, ℕ, zero, suc, ◌+◌, ◌≤◌, Bool, true, false, cond, eqb, List, [], ◌∷◌, ◌++◌, length, Some, None, Option, refl, arith}
use Rattle.std.specs.List.{slice_get}
use Rattle.bedrock.specs.Geometries.{Sizes, set_of}
use Rattle.messages.specs.declared.command.Command.{Command}
use Rattle.messages.specs.declared.command.Command.TheVariants.{Invalidate, SetStateWriteback, Transfer, SetTagData, SetStateWakeup}
use Rattle.messages.specs.declared.response.Response.{Response}
use Rattle.messages.specs.declared.memory_command.MemoryCommand.{MemoryCommand}
use Rattle.messages.specs.declared.memory_command.MemoryCommand.TheVariants.{Read, Write}
use Rattle.messages.specs.Messages.{response_block}
use Rattle.wires.specs.Waiting.{without}
use Rattle.machine.specs.declared.transaction.Round.{Round}
use Rattle.machine.specs.declared.transaction.Round.TheVariants.{One, Two}
use Rattle.machine.specs.declared.transaction.Transaction.{Transaction}
use Rattle.machine.specs.Machines.{Machine, one_more}
use Rattle.machine.proofs.Weights.{weigh}
use Rattle.machine.proofs.Matches.{Added, command_weight, response_weight, memory_weight, ack_owed, Matches}

pub record Rooms (m : Machine) : Type 0 where
  pub requests : length m.requests ≤ 128
  pub commands : length m.commands ≤ 128
  pub responses : length m.responses ≤ 128
  pub memory_commands : length m.memory_commands ≤ 128

-- ---- lengths

-- one is taken, one comes last, many come last
pub taken_length : {A : Type 0} (xs : List A) (i : ℕ) (x : A) → slice_get xs i ≡ Some x → suc (length (without xs i)) ≡ length xs
taken_length [] i x e = cc
taken_length (y ∷ ys) zero x e = refl
taken_length (y ∷ ys) (suc i) x e = let h = taken_length ys i x e in omega arith

pub append_length : {A : Type 0} (xs ys : List A) → length (xs ++ ys) ≡ length xs + length ys
append_length [] ys = omega arith
append_length (x ∷ xs) ys = let h = append_length xs ys in omega arith

pub push_length : {A : Type 0} (xs : List A) (x : A) → length (xs ++ x ∷ []) ≡ suc (length xs)
push_length xs x = let h = append_length xs (x ∷ []) in omega arith

-- ---- counts

weigh_most : {A : Type 0} (f : A → ℕ) → ((a : A) → f a ≤ 2) → (xs : List A) → weigh f xs ≤ length xs + length xs
weigh_most f l [] = omega arith
weigh_most f l (x ∷ xs) = let h = weigh_most f l xs in let k = l x in omega arith

weight_most : (t : Bool) (n : ℕ) → n ≤ 2 → cond t n 0 ≤ 2
weight_most true n l = l
weight_most false n l = omega arith

command_most : (n : Sizes) (s : ℕ) (k : Command) → command_weight n s k ≤ 2
command_most n s (Invalidate c b w) = weight_most (eqb (set_of n b) s) 1 (omega arith)
command_most n s (SetStateWriteback c b w) = weight_most (eqb (set_of n b) s) 1 (omega arith)
command_most n s (Transfer c b w r p next given writeback) = weight_most (eqb (set_of n b) s) (cond writeback 2 1) (either writeback)
  where
    either : (t : Bool) → cond t 2 1 ≤ 2
    either true = omega arith
    either false = omega arith
command_most n s (SetTagData c b w next ws sender) = weight_most (eqb (set_of n b) s) 1 (omega arith)
command_most n s (SetStateWakeup c b w) = weight_most (eqb (set_of n b) s) 1 (omega arith)

response_most : (n : Sizes) (s : ℕ) (k : Response) → response_weight n s k ≤ 2
response_most n s k = weight_most (eqb (set_of n (response_block k)) s) 1 (omega arith)

memory_most : (n : Sizes) (s : ℕ) (k : MemoryCommand) → memory_weight n s k ≤ 2
memory_most n s (Read b r w next) = weight_most (eqb (set_of n b) s) 2 (omega arith)
memory_most n s (Write b ws) = weight_most (eqb (set_of n b) s) 1 (omega arith)

ack_most : (t : Option Transaction) → ack_owed t ≤ 1
ack_most None = omega arith
ack_most (Some t) = go t.round
  where
    go : (r : Round) → (elim r as (λ _. ℕ) [ Two ↦ 0 | One n ↦ 1 ]) ≤ 1
    go Two = omega arith
    go (One n) = omega arith

pub count_most : (m : Machine) (x : Added) → Matches m x → Rooms m → (s : ℕ) → m.count s ≤ 1000
count_most m x ok room s =
    let h = ok.weights s in
    let a = weigh_most (command_weight m.geometry s) (command_most m.geometry s) m.commands in
    let b = weigh_most (response_weight m.geometry s) (response_most m.geometry s) m.responses in
    let c = weigh_most (memory_weight m.geometry s) (memory_most m.geometry s) m.memory_commands in
    let d = ack_most (m.serving s) in
    let p = room.commands in let q = room.responses in let r = room.memory_commands in omega arith

pub one_more_is : (n : ℕ) → n ≤ 1000 → one_more n ≡ n + 1
one_more_is n l = omega arith
