-- The laws of all rows of all tables, by one test that antt computes. Assumes nothing.
use Rattle.std.specs.Prelude.{◌≡◌, ℕ, zero, suc, ◌<◌, Bool, true, ◌&&◌, List, [], ◌∷◌, length, slice_index_or, refl}
use Rattle.std.proofs.Common.{subst, arith}
use Rattle.std.proofs.lemmas.Bool.{and_parts}
use Rattle.protocols.specs.declared.state.State.{State}
use Rattle.protocols.specs.declared.state.State.TheVariants.{I, S, E, M, O, F}
use Rattle.protocols.specs.declared.row.Row.{Row}
use Rattle.protocols.specs.declared.protocol_kind.ProtocolKind.{ProtocolKind}
use Rattle.protocols.specs.declared.protocol_kind.ProtocolKind.TheVariants.{Mi, Msi, Mesi, Mesif, Mosi, Mosif, Moesi, Moesif}
use Rattle.protocols.specs.ProtocolKinds.{code_of}
use Rattle.protocols.specs.Rows.{unowned_law, handover_law, exclusive_law, dirty_law, lawful}
use Rattle.protocols.specs.Tables.{read_row}

-- the six rows of one protocol
abbrev all_rows : (State → Row) → Bool
all_rows row = lawful I (row I) && (lawful S (row S) && (lawful E (row E) && (lawful M (row M) && (lawful O (row O) && lawful F (row F)))))

abbrev all_protocols : List ProtocolKind → Bool
all_protocols [] = true
all_protocols (p ∷ ps) = all_rows (read_row p) && all_protocols ps

abbrev protocols : List ProtocolKind
protocols = Mi ∷ Msi ∷ Mesi ∷ Mesif ∷ Mosi ∷ Mosif ∷ Moesi ∷ Moesif ∷ []

-- the test
all_lawful : all_protocols protocols ≡ true
all_lawful = refl

-- a test of six parts, part by part
six : (a b c d e f : Bool) → (a && (b && (c && (d && (e && f))))) ≡ true → (a ≡ true) × (b ≡ true) × (c ≡ true) × (d ≡ true) × (e ≡ true) × (f ≡ true)
six a b c d e f h =
    let p = and_parts a (b && (c && (d && (e && f)))) h in
    let q = and_parts b (c && (d && (e && f))) p.1 in
    let r = and_parts c (d && (e && f)) q.1 in
    let s = and_parts d (e && f) r.1 in
    let t = and_parts e f s.1 in
    (p.0, q.0, r.0, s.0, t.0, t.1)

-- what it says of one protocol
module _ (row : State → Row) (test : all_rows row ≡ true) where
  parts : (lawful I (row I) ≡ true) × (lawful S (row S) ≡ true) × (lawful E (row E) ≡ true) × (lawful M (row M) ≡ true) × (lawful O (row O) ≡ true) × (lawful F (row F) ≡ true)
  parts = six (lawful I (row I)) (lawful S (row S)) (lawful E (row E)) (lawful M (row M)) (lawful O (row O)) (lawful F (row F)) test

  at_state : (s : State) → lawful s (row s) ≡ true
  at_state I = parts.0
  at_state S = parts.1
  at_state E = parts.2
  at_state M = parts.3
  at_state O = parts.4
  at_state F = parts.5

-- what it says of the protocol number k of a list
at_number : (ps : List ProtocolKind) → all_protocols ps ≡ true → (k : ℕ) → k < length ps → (s : State) → lawful s (read_row (slice_index_or ps k Mi) s) ≡ true
at_number [] test k inside s = absurd (omega arith)
at_number (p ∷ ps) test zero inside s = at_state (read_row p) (and_parts (all_rows (read_row p)) (all_protocols ps) test).0 s
at_number (p ∷ ps) test (suc k) inside s = at_number ps (and_parts (all_rows (read_row p)) (all_protocols ps) test).1 k (omega arith) s

-- each protocol stands in the list at its code
listed : (p : ProtocolKind) → (code_of p < length protocols) × (slice_index_or protocols (code_of p) Mi ≡ p)
listed Mi = (omega arith, refl)
listed Msi = (omega arith, refl)
listed Mesi = (omega arith, refl)
listed Mesif = (omega arith, refl)
listed Mosi = (omega arith, refl)
listed Mosif = (omega arith, refl)
listed Moesi = (omega arith, refl)
listed Moesif = (omega arith, refl)

rows_lawful : (p : ProtocolKind) (s : State) → lawful s (read_row p s) ≡ true
rows_lawful p s = subst (λ q. lawful s (read_row q s) ≡ true) (listed p).1 (at_number protocols all_lawful (code_of p) (listed p).0 s)

-- the four laws
module _ (p : ProtocolKind) (s : State) where
  first : (unowned_law s (read_row p s) ≡ true) × ((handover_law s (read_row p s) && (exclusive_law s (read_row p s) && dirty_law s (read_row p s))) ≡ true)
  first = and_parts (unowned_law s (read_row p s)) (handover_law s (read_row p s) && (exclusive_law s (read_row p s) && dirty_law s (read_row p s))) (rows_lawful p s)

  second : (handover_law s (read_row p s) ≡ true) × ((exclusive_law s (read_row p s) && dirty_law s (read_row p s)) ≡ true)
  second = and_parts (handover_law s (read_row p s)) (exclusive_law s (read_row p s) && dirty_law s (read_row p s)) first.1

  third : (exclusive_law s (read_row p s) ≡ true) × (dirty_law s (read_row p s) ≡ true)
  third = and_parts (exclusive_law s (read_row p s)) (dirty_law s (read_row p s)) second.1

  pub unowned_kept : unowned_law s (read_row p s) ≡ true
  unowned_kept = first.0

  pub handover_kept : handover_law s (read_row p s) ≡ true
  handover_kept = second.0

  pub exclusive_kept : exclusive_law s (read_row p s) ≡ true
  exclusive_kept = third.0

  pub dirty_kept : dirty_law s (read_row p s) ≡ true
  dirty_kept = third.1
