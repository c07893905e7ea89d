use Rattle.lapi_gen.proofs.Parts.{links_are}
use Rattle.lapi_gen.proofs.link.links_at.Goals as goal

pub returns-clause-links : goal.returns-clause-links
returns-clause-links c =
    links_are c.args.draws.now c.args.b _ _ _ _ _ c.link_at.ensures.link c.link_at-2.ensures.link c.link_at-3.ensures.link c.link_at-4.ensures.link c.link_at-5.ensures.link
