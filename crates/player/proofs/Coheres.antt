-- Every sheet is played coherently: a run of calls with picks is one with the indices that the picks show.
use Rattle.std.proofs.Common.{◌≡◌, ℕ, Bool, true, false, cond, ltb, List, [], ◌∷◌, length, Ok, Err, Result, refl, subst, arith}
use Rattle.std.proofs.lemmas.Bool.Decides.{nat_tests}
use Rattle.bedrock.specs.Geometries.{bounded}
use Rattle.protocols.specs.declared.protocol_kind.ProtocolKind.{ProtocolKind}
use Rattle.protocols.specs.Laws.{unowned_kept, handover_kept, exclusive_kept, dirty_kept}
use Rattle.protocols.specs.Tables.{read_row}
use Rattle.machine.specs.declared.fabric_call.FabricCall.{FabricCall}
use Rattle.machine.specs.Machines.{Machine}
use Rattle.machine.specs.Runs.{Call, Event, Past, step, run_on}
use Rattle.machine.specs.Picking.{Picks, arriving, play_on}
use Rattle.machine.specs.Coherence.{Coherent, Lawful, Coherence}
use Rattle.sheet.specs.declared.head.HeadCodes.{HeadCodes}
use Rattle.sheet.specs.Heads.{head_of, sizes_in, in_bounds, marked, codes_in}
use Rattle.sheet.specs.Records.{Item}
use Rattle.runs.proofs.Hearing.{same_says}
use Rattle.player.specs.Calls.{calls_in, items_in}
use Rattle.player.specs.Plays.{picks_of, protocol_of, rows_of, content_of, start_of, reading_of}
use Rattle.player.specs.Coherently.{CoherentRun, CoherentAfter, AllCoherent}

-- ---- picks and indices

abbrev indexed : Picks → Machine → List FabricCall → List Call
indexed k m [] = []
indexed k m (x ∷ xs) = arriving k m x ∷ indexed k (step m (arriving k m x)).after xs

same_run : (k : Picks) (xs : List FabricCall) (m : Machine) (past : List Event) → run_on m past (indexed k m xs) ≡ play_on k m past xs
same_run k [] m past = refl
same_run k (x ∷ xs) m past = same_run k xs (step m (arriving k m x)).after (record { call = arriving k m x; says = (step m (arriving k m x)).says } ∷ past)

-- ---- every protocol keeps the four laws

rows_lawful : (p : ProtocolKind) → Lawful (read_row p)
rows_lawful p s = rw (unowned_kept p s, handover_kept p s, exclusive_kept p s, dirty_kept p s) refl

-- ---- a good head has a geometry

good_codes : (a b c : Bool) (g h : HeadCodes) → cond {A = Result HeadCodes ℕ} a (Err 5) (cond b (cond c (Ok g) (Err 7)) (Err 6)) ≡ Ok h → (c ≡ true) × (g ≡ h)
good_codes true b c g h e = cc
good_codes false true true g h e = (refl, cc)
good_codes false true false g h e = cc
good_codes false false c g h e = cc

good_sizes : (h : HeadCodes) → in_bounds h ≡ true → bounded (sizes_in h) ≡ true
good_sizes h i = grind (arith, nat_tests)

head_sizes : (bs : List ℕ) (h : HeadCodes) → head_of bs ≡ Ok h → bounded (sizes_in h) ≡ true
head_sizes bs h e =
    let p = good_codes (ltb 32768 (length bs)) (marked bs) (in_bounds (codes_in bs)) (codes_in bs) h e in
    good_sizes h (subst (λ g. in_bounds g ≡ true) p.1 p.0)

-- ---- all sheets

module _ (theorem : Coherence) where
  coherent_run : (h : HeadCodes) (xs : List Item) → bounded (sizes_in h) ≡ true → CoherentRun h xs
  coherent_run h xs b =
      let k : Picks = picks_of h.channels in
      let m : Machine = start_of h xs in
      record {
        coherent = subst (λ (p : Past). Coherent (content_of h xs) p.machine p.events) (same_run k (calls_in xs) m [])
            (theorem (sizes_in h) (rows_of h.protocol) (content_of h xs) b (rows_lawful (protocol_of h.protocol)) (indexed k m (calls_in xs)));
        same = same_says k (calls_in xs) m [];
      }

  pub all_coherent : AllCoherent
  all_coherent bs = by (head_of bs) refl
    where
      by : (v : Result HeadCodes ℕ) → head_of bs ≡ v → CoherentAfter (reading_of bs) v
      by (Ok h) e = coherent_run h (items_in (reading_of bs)) (head_sizes bs h e)
      by (Err n) e = tt
