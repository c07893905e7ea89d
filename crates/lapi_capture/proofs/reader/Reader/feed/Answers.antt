use Rattle.std.proofs.Common.{ap, sym, subst, length, ◌++◌, ◌∙◌}
use Rattle.std.proofs.lemmas.Bool.{eqb-true}
use Rattle.lapi_capture.specs.Reading.{IsReadingOf}
use Rattle.lapi_capture.proofs.Told.{bytes_told, faulty_same}
use Rattle.lapi_capture.proofs.Together.{none_left}
use Rattle.lapi_capture.proofs.reader.Reader.feed.Goals as goal

pub returns-in-Faulty-clause-told : goal.returns-in-Faulty-clause-told
returns-in-Faulty-clause-told c = λ ok bytes was.
    subst (λ r. IsReadingOf r (bytes ++ c.args.piece.now)) (faulty_same c.in-Faulty.fault c.args.self.now c.args.piece.now (ap (λ r. r.stage) (sym c.self.view_is) ∙ c.in-Faulty.is)) (bytes_told c.args.self.now bytes c.args.piece.now was)

pub returns-clause-told : goal.returns-clause-told
returns-clause-told c = λ ok bytes was.
    let all = none_left c.loop-left.self c.loop-left.left.now (eqb-true (length c.loop-left.left.now) 0 (sym c.loop-left-test.ensures)) ∙ c.loop-left.invariant in
    subst (λ r. IsReadingOf r (bytes ++ c.args.piece.now)) (sym all) (bytes_told c.args.self.now bytes c.args.piece.now was)
