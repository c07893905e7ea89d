-- The rules of the header handlers that the program is run with.
use Rattle.lapi_base.specs.declared.rule.HeaderRule.{HeaderRule}
use Rattle.lapi_base.specs.declared.rule.Place.{Place}
use Rattle.lapi_base.specs.declared.rule.Place.TheVariants.{PerOrigin, Nowhere}
use Rattle.lapi_base.specs.declared.rule.Choice.{Choice}
use Rattle.lapi_base.specs.declared.rule.Choice.TheVariants.{Never, Always}

abbrev pub word_rule : HeaderRule
word_rule = record { place = Place.Word; choice = Never }

abbrev pub word_and_choice_rule : HeaderRule
word_and_choice_rule = record { place = Place.Word; choice = Choice.Word }

abbrev pub per_origin_rule : HeaderRule
per_origin_rule = record { place = PerOrigin 0 256; choice = Always 3 }

abbrev pub nowhere_rule : HeaderRule
nowhere_rule = record { place = Nowhere; choice = Always 1 }
