-- A code that its field holds is reported; what isn't used is zero, and reports zero.
use Prim.Native.Nat.{suc}
use Rattle.quantities.specs.Places.{latitude, longitude}
use Rattle.quantities.proofs.HeldLaws.{shape-held, count_held}
use Rattle.field_reports.proofs.OutlineLaws.{outline-held, all-reported}
use Rattle.reports.proofs.shape.quantities_of.Goals as goal

pub latitudes-reported_latitudes-requires : goal.latitudes-reported_latitudes-requires
latitudes-reported_latitudes-requires c =
    record { n_bound = count_held c.args.shape c.requires; latitudes_held = λ i h. shape-held c.args.shape c.requires (latitude (suc i)) }

pub longitudes-reported_longitudes-requires : goal.longitudes-reported_longitudes-requires
longitudes-reported_longitudes-requires c =
    record { n_bound = count_held c.args.shape c.requires; longitudes_held = λ i h. shape-held c.args.shape c.requires (longitude (suc i)) }

pub outline-quantities-requires : goal.outline-quantities-requires
outline-quantities-requires c = outline-held c.args.shape c.requires

pub returns : goal.returns
returns c =
    all-reported c.args.shape c.requires _ c.outline-quantities.ensures c.latitudes-reported_latitudes.ensures c.longitudes-reported_longitudes.ensures
