use Rattle.std.proofs.Common.{sym, ◌∙◌}
use Rattle.lapi_window.proofs.MemberLaws.{receiving-base, receiving-bits}
use Rattle.lapi_window.proofs.recv_window.RecvWindow.ack.Goals as goal

pub returns-clause-base : goal.returns-clause-base
returns-clause-base c =
    sym (receiving-base c.args.self.now c.self.inside.window c.least_absent.result c.self.inside.taken c.self.view_is c.least_absent.ensures.base c.least_absent.ensures.absent c.least_absent.type_inv)

pub returns-clause-bits : goal.returns-clause-bits
returns-clause-bits c =
    receiving-bits c.args.self.now c.self.inside.window c.bits.result c.self.inside.taken c.self.view_is
    (receiving-base c.args.self.now c.self.inside.window c.least_absent.result c.self.inside.taken c.self.view_is c.least_absent.ensures.base c.least_absent.ensures.absent c.least_absent.type_inv ∙ c.least_absent.ensures.base)
    c.bits.ensures
    c.self.invariant.near
