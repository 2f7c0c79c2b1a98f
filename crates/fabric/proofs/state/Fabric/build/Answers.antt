use Rattle.std.proofs.Common.{◌≡◌, ℕ}
use Rattle.bedrock.specs.Geometries.{sizes}
use Rattle.machine.specs.declared.holding.Way.{Way}
use Rattle.machine.specs.declared.holding.Entry.{Entry}
use Rattle.machine.specs.Holdings.{no_way, no_entry}
use Rattle.tables.specs.Grids.{grid, everywhere, everywhere₂, everywhere₃}
use Rattle.fabric.proofs.state.Fabric.build.Goals as goal

pub returns : goal.returns
unfolding everywhere everywhere₂ everywhere₃
returns g c =
    let way : ◌≡◌ {A = ℕ → ℕ → ℕ → Way} (grid no_way c.new-2.result.cells) (λ _ _ _. no_way) = rw c.empty-2.ensures at c.new-2.ensures in
    let entry : ◌≡◌ {A = ℕ → ℕ → ℕ → Entry} (grid no_entry c.new.result.cells) (λ _ _ _. no_entry) = rw c.empty.ensures at c.new.ensures in
    λ t. record {
      geometry = sizes c.args.geometry;
      rows = g.B.Protocol.Protocol.row c.args.protocol;
      way = way t;
      entry = entry t;
      kept = c.new-3.ensures t;
      turn = c.new-4.ensures t;
      serving = c.new-5.ensures t;
      count = c.new-6.ensures t;
      memory = g.B.Memory.Memory.blocks c.args.memory;
      requests = c.new-7.ensures t;
      commands = c.new-8.ensures t;
      responses = c.new-9.ensures t;
      memory_commands = c.new-10.ensures t;
    }
