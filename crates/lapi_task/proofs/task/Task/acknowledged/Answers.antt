use Rattle.std.proofs.Common.{sym, ◌∙◌, subst, ℕ, List, ◌≤◌, ◌<◌, length}
use Rattle.std.specs.Prelude.{slice_index}
use Rattle.std.specs.List.{AllByRecursion}
use Rattle.lapi_task.specs.Unfinished.{times}
use Rattle.lapi_task.proofs.Acknowledging.ArrivingAcks.{acked-does}
use Rattle.lapi_task.proofs.Acknowledging.AckTracks.{tracks-noted}
use Rattle.lapi_task.proofs.Acknowledging.CoveredTags.{tags-are-known, tags-are-left}
use Rattle.lapi_task.proofs.Receiving.MayCome.{sender-there, known-task}
use Rattle.lapi_base.proofs.ListLaws.{found-at}
use Rattle.lapi_task.proofs.Acknowledging.TimesLaws.{HasTaken}
use Rattle.lapi_task.proofs.task.Task.acknowledged.Goals as goal

pub acked-tags-requires : goal.acked-tags-requires
acked-tags-requires c =
    let task = c.args.self.now in
    let at = c.requires.stands in
    let may = c.requires.may.3 in
    let end = c.index_mut.result.now in
    let here = found-at task.senders.items c.args.from end (sender-there task at c.args.from may.known) c.index_mut.ensures.value in
    may.fits end here

pub acknowledged-requires-clause-known : goal.acknowledged-requires-clause-known
acknowledged-requires-clause-known c =
    let task = c.args.self.now in
    let at = c.requires.stands in
    let may = c.requires.may.3 in
    let end = c.index_mut.result.now in
    let here = found-at task.senders.items c.args.from end (sender-there task at c.args.from may.known) c.index_mut.ensures.value in
    let u = task.unfinished in
    subst (λ (xs : List ℕ). AllByRecursion (λ i. (i < length u.left) × (i < length u.undone)) xs) (sym (c.as_slice.ensures.items ∙ c.acked-tags.ensures.tags))
    (tags-are-known at.0 at.1 at.2 at.3 task at.4 c.args.from c.args.base c.args.bits (known-task task at c.args.from may.known) end here (may.fits end here))

pub acknowledged-requires-clause-enough : goal.acknowledged-requires-clause-enough
acknowledged-requires-clause-enough c =
    let task = c.args.self.now in
    let at = c.requires.stands in
    let may = c.requires.may.3 in
    let end = c.index_mut.result.now in
    let here = found-at task.senders.items c.args.from end (sender-there task at c.args.from may.known) c.index_mut.ensures.value in
    let u = task.unfinished in
    subst (λ (xs : List ℕ). (i : ℕ) → times i xs ≤ slice_index u.left i) (sym (c.as_slice.ensures.items ∙ c.acked-tags.ensures.tags))
    (tags-are-left at.0 at.1 at.2 at.3 task at.4 c.args.from c.args.base c.args.bits (known-task task at c.args.from may.known) end here (may.fits end here))

pub returns : goal.returns
returns c = λ script rules t k l x y r out at known entry.
    let u = c.args.self.now.unfinished in
    let after = c.acknowledged.new.self in
    let taken : HasTaken u after c.as_slice.result.now = record { size = c.acknowledged.ensures.size; left = c.acknowledged.ensures.left; undone = c.acknowledged.ensures.undone } in
    let own = subst (HasTaken u after) (c.as_slice.ensures.items ∙ c.acked-tags.ensures.tags) taken in
    acked-does script rules r c.args.from t k l x y c.args.base c.args.bits c.args.self.now at known entry c.index_mut.result.now c.index_mut.ensures.value c.acked-tags.new.self after
    (tracks-noted script rules r c.args.from t k l x y c.args.base c.args.bits c.args.self.now at known entry c.index_mut.result.now c.index_mut.ensures.value u at.stands.unfinished after own)
    c.acked-tags.ensures.acked out
