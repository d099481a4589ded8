-- After each turn the coordinates of one point more are put.
use Prim.Native.Nat.{◌<◌}
use mathlib.Core.Path.{◌≡◌, refl}
use borrow.Author.Rules.{rules}
use lib.ListN.{length-set}
use Rattle.quantity_arrays.proofs.ArrayLaws.{stored}
use Rattle.array_reports.proofs.PointLaws.{latitude-held, latitude-is, longitude-held, longitude-is, none-put, one-put}
use Rattle.array_reports.proofs.points.put_reported_points.Goals as goal

pub loop-i-init : goal.loop-i-init
loop-i-init c = (none-put _ _, refl)

pub latitude-latitude-requires : goal.latitude-latitude-requires
latitude-latitude-requires c =
    latitude-held c.args.codes.now c.loop-i.i (search rules) (c.requires.used_within c.loop-i.i (search rules))

pub longitude-longitude-requires : goal.longitude-longitude-requires
longitude-longitude-requires c =
    longitude-held c.args.codes.now c.loop-i.i (search rules) (c.requires.used_within c.loop-i.i (search rules)) c.longitude_of.ensures

pub loop-i-preserved : goal.loop-i-preserved
loop-i-preserved c =
    let codes = c.args.codes.now in
    let few : c.loop-i.i < 15 = search rules in
    let within = c.requires.used_within c.loop-i.i (search rules) in (
      one-put codes c.loop-i.invariant.0 few (latitude-is codes c.loop-i.i few within) (longitude-is codes c.loop-i.i few within c.longitude_of.ensures) c.latitude-latitude.result c.longitude-longitude.result c.latitude-latitude.ensures c.longitude-longitude.ensures
          (stored refl (search rules))
          (stored refl (search rules)),
      simp length-set c.loop-i.invariant.1,
    )

pub returns : goal.returns
returns c =
    let e : c.loop-i.i ≡ c.args.n = search rules in
    rw e at c.loop-i.invariant.0
