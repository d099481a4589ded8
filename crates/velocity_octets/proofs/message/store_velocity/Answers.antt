-- The bearing fits, and each kind's octets are stored by its law.
use Rattle.velocity_octets.proofs.StoreLaws.{bearing-fits, horizontal-stored, uncertain-stored, all-stored}
use Rattle.velocity_octets.proofs.message.store_velocity.Goals as goal

pub first_word-first-requires-clause-bearing_bound : goal.first_word-first-requires-clause-bearing_bound
first_word-first-requires-clause-bearing_bound c = bearing-fits _ _ c.requires

pub returns-in-Horizontal : goal.returns-in-Horizontal
returns-in-Horizontal c =
    horizontal-stored _ c.args.out.now _ c.requires _ _ c.from-type_number.ensures c.first_word-first.ensures c.in-Horizontal.is c.put_four.ensures

pub returns-in-HorizontalUncertain : goal.returns-in-HorizontalUncertain
returns-in-HorizontalUncertain c =
    uncertain-stored _ c.args.out.now _ c.requires _ _ c.from-type_number.ensures c.first_word-first.ensures c.in-HorizontalUncertain.is c.put_five-in-HorizontalUncertain.ensures

pub returns-in-HorizontalVerticalUncertain : goal.returns-in-HorizontalVerticalUncertain
returns-in-HorizontalVerticalUncertain c =
    all-stored _ c.args.out.now _ c.requires _ _ c.from-type_number.ensures c.first_word-first.ensures c.in-HorizontalVerticalUncertain.is c.put_seven.ensures
