use Rattle.std.proofs.Common.{ℕ, List, ◌+◌, ◌∷◌, ◌++◌, [], ap, ◌∙◌}
use Rattle.lapi_gen.specs.declared.form.TheConstants.{BYTE}
use Rattle.lapi_gen.specs.Draws.{Stream, pick}
use Rattle.lapi_gen.proofs.Numbered.{map_more}
use Rattle.lapi_gen.proofs.draws.bytes.Goals as goal

pub loop-i-preserved : goal.loop-i-preserved
loop-i-preserved c =
    let n = c.args.random.now.number in
    let next : Stream → Stream = λ s. record { number = s.number; drawn = s.drawn + 1 } in
    let push : List ℕ → ℕ → List ℕ = λ xs x. xs ++ x ∷ [] in
    let value = c.pick.ensures.value ∙ ap (λ (s : Stream). pick s.number s.drawn BYTE) c.loop-i.invariant.drawn in
    let pushed =
    ap (push c.loop-i.bytes.items) value
    ∙ ap (λ xs. push xs (pick n c.loop-i._i BYTE)) c.loop-i.invariant.bytes
    ∙ map_more (λ i. pick n i BYTE) c.loop-i._i in
    record {
      bytes = ◌∙◌ {A = List ℕ} c.in_ok-push.ensures.items pushed;
      drawn = c.pick.ensures.drawn ∙ ap next c.loop-i.invariant.drawn;
    }
