-- Three octets hold less than 2^24.
use Rattle.octets.proofs.BitLaws.{bits-lt}
use Rattle.octets.proofs.longitude_at.Goals as goal

pub from_complement-requires : goal.from_complement-requires
from_complement-requires c = rw c.three_octets.ensures (bits-lt _ _ 24)
