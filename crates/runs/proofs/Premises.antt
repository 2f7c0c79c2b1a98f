-- What the theorem asks of a fabric's parts: every geometry is within its bounds, and every protocol keeps the four laws.
use Rattle.std.proofs.Common.{◌≡◌, true, refl, arith}
use Rattle.std.proofs.lemmas.Bool.Decides.{nat_tests}
use Rattle.bedrock.specs.declared.geometry.Geometry.{Geometry}
use Rattle.bedrock.specs.Geometries.{sizes, bounded}
use Rattle.protocols.specs.declared.state.State.{State}
use Rattle.protocols.specs.declared.row.Row.{Row}
use Rattle.protocols.specs.Rows.{unowned_law, handover_law, exclusive_law, dirty_law}
use Rattle.machine.specs.Coherence.{Lawful}

pub geometry_bounded : (g : Geometry) → bounded (sizes g) ≡ true
geometry_bounded g = grind (arith, nat_tests)

pub rows_lawful : (rows : State → Row) → ((s : State) → unowned_law s (rows s) ≡ true) → ((s : State) → handover_law s (rows s) ≡ true) → ((s : State) → exclusive_law s (rows s) ≡ true) → ((s : State) → dirty_law s (rows s) ≡ true)
    → Lawful rows
rows_lawful rows u h e d s = rw (u s, h s, e s, d s) refl
