-- The laws of the map, together.
use Prim.Native.Nat.{ℕ}
use mathlib.Core.Logic.{◌⊎◌, inl, inr}
use mathlib.Core.List.{[]}
use native.Mathlib.Omega.{arith}
use Rattle.layout.specs.Pool.{literals_of}
use Rattle.memory_map.specs.MapLaws.{MapLaws, Among}
use Rattle.memory_map.proofs.PoolLaws.{at_index, added_all_end, index_stays, all_among, all_from, distinct_all}
use Rattle.memory_map.proofs.Sectors.{in_sector, in_last_sector, pool_ends}
use Rattle.memory_map.proofs.Room.{never_12}
use Rattle.memory_map.proofs.Accepted.{accepted}
use Rattle.memory_map.proofs.LaidPrograms.{placed, laid_at, image_size}
use Rattle.memory_map.proofs.Placement.{constant_home}
use Rattle.memory_map.proofs.Unique.{cell_declared}
use Rattle.memory_map.proofs.Subscripts.{elements}

from_none : {A : Type 0} (v : ℕ) → Among [] v ⊎ A → A
from_none v (inl l) = absurd (omega arith)
from_none v (inr a) = a

pub map_laws : MapLaws
map_laws = record {
  distinct = λ vs. distinct_all [] vs (λ k l. absurd (omega arith));
  pooled = λ pool ws v l. (all_among pool (literals_of ws) v l, at_index _ v (all_among pool (literals_of ws) v l));
  only = λ vs v l. from_none v (all_from [] vs v l);
  appended = added_all_end;
  pool_ends = pool_ends;
  in_sector = in_sector;
  in_last_sector = in_last_sector;
  stays = λ pool vs v l. index_stays v (added_all_end pool vs) l;
  well_formed = λ source c e. (accepted source c e).well_formed;
  by_tree = λ source c e. (accepted source c e).is;
  never_12 = never_12;
  image_size = λ source c e. image_size c (accepted source c e);
  homes = λ source c e. (placed c.program (accepted source c e).well_formed).homes;
  constants = λ source c e i v. constant_home c.program (accepted source c e).well_formed (i, v);
  cells = λ source c e. cell_declared c.program (accepted source c e).well_formed;
  elements = λ source c e. elements c.program (accepted source c e).well_formed;
  sound = λ source c e. (placed c.program (accepted source c e).well_formed).sound;
  laid = λ source c e. laid_at c (accepted source c e);
}
