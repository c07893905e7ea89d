use Rattle.std.proofs.Common.{refl, sym, ap, ◌∙◌, arith}
use Rattle.lapi_window.specs.RecvWindow.{Receiving}
use Rattle.lapi_window.proofs.MemberLaws.{base_le_absent, receiving-base, near-with}
use Rattle.lapi_window.proofs.recv_window.RecvWindow.take.Goals as goal

pub returns-then-contains-clause-beyond : goal.returns-then-contains-clause-beyond
returns-then-contains-clause-beyond c =
    let base = receiving-base c.args.self.now c.self.inside.window c.least_absent-base.result c.self.inside.taken c.self.view_is c.least_absent-base.ensures.base c.least_absent-base.ensures.absent c.least_absent-base.type_inv in
    let window = ap (λ (r : Receiving). r.window) c.self.view_is in
    let at = c.least_absent-base.ensures.base in
    let near = c.self.invariant.near c.args.seq (sym c.contains.ensures ∙ c.if-contains.true) in
    (λ e. absurd (cc), λ far. absurd (omega (arith, far, base, window, at, near)))

pub overflow_sub-seq : goal.overflow_sub-seq
overflow_sub-seq c =
    let le = base_le_absent c.self.inside.taken c.args.seq (sym c.contains.ensures ∙ c.if-contains.false) in
    let at = c.least_absent-base.ensures.base in
    omega (arith, le, at)

pub returns-then-seq-base-clause-beyond : goal.returns-then-seq-base-clause-beyond
returns-then-seq-base-clause-beyond c =
    let base = receiving-base c.args.self.now c.self.inside.window c.least_absent-base.result c.self.inside.taken c.self.view_is c.least_absent-base.ensures.base c.least_absent-base.ensures.absent c.least_absent-base.type_inv in
    let window = ap (λ (r : Receiving). r.window) c.self.view_is in
    let at = c.least_absent-base.ensures.base in
    let le = base_le_absent c.self.inside.taken c.args.seq (sym c.contains.ensures ∙ c.if-contains.false) in
    let far = c.if-seq-base.true in
    (λ _. omega (arith, base, window, at, le, far), λ _. refl)

pub with-self-inside-requires-clause-near : goal.with-self-inside-requires-clause-near
with-self-inside-requires-clause-near c =
    let le = base_le_absent c.self.inside.taken c.args.seq (sym c.contains.ensures ∙ c.if-contains.false) in
    let at = c.least_absent-base.ensures.base in
    let near = c.if-seq-base.false in
    let size = c.self.invariant.size.1 in
    (le, omega (arith, le, at, near, size))

pub invariant_of-self : goal.invariant_of-self
invariant_of-self c =
    let le = base_le_absent c.self.inside.taken c.args.seq (sym c.contains.ensures ∙ c.if-contains.false) in
    let at = c.least_absent-base.ensures.base in
    let near = c.if-seq-base.false in
    record {
      size = c.self.invariant.size;
      near = near-with c.self.inside.taken c.with-self-inside.result c.args.seq c.self.inside.window c.with-self-inside.ensures.set c.with-self-inside.ensures.absent c.self.invariant.near (omega (arith, le, at, near));
    }

pub returns-clause-beyond : goal.returns-clause-beyond
returns-clause-beyond c =
    let base = receiving-base c.args.self.now c.self.inside.window c.least_absent-base.result c.self.inside.taken c.self.view_is c.least_absent-base.ensures.base c.least_absent-base.ensures.absent c.least_absent-base.type_inv in
    let window = ap (λ (r : Receiving). r.window) c.self.view_is in
    let near = c.if-seq-base.false in
    (λ e. absurd (cc), λ far. absurd (omega (arith, far, base, window, near)))
