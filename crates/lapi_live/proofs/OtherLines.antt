-- Lines that are neither Begin nor End of a worker leave it what it runs, and the buffer that it was given.
use Rattle.std.proofs.Common.{◌≡◌, ℕ, false, List, [], ◌∷◌, ◌++◌, Option, Some, None, refl, sym, ap, ◌∙◌, subst, append_assoc, arith}
use Rattle.std.specs.Prelude.{option_map, unwrap_or}
use Rattle.std.specs.List.{AllByRecursion, filter_map, cons_option}
use Rattle.std.proofs.lemmas.Bool.{false_from_ne_true}
use Rattle.std.proofs.lemmas.List.{append-nil}
use Rattle.std.proofs.lemmas.List.Elements.{filter_map-append}
use Rattle.lapi_base.specs.declared.schedule.Act.{Act}
use Rattle.lapi_base.specs.declared.schedule.Act.TheVariants.{Step, Poll, Tick, Deliver, Cut, Inject}
use Rattle.lapi_base.specs.declared.schedule.Line.{Line}
use Rattle.lapi_base.specs.Packet.Spelling.{spells_packet}
use Rattle.lapi_base.specs.Laws.Working.{works_at}
use Rattle.lapi_base.specs.Record.Lanes.{is_work_of}
use Rattle.lapi_base.specs.Record.Valid.{ValidSchedule}
use Rattle.lapi_base.specs.Record.Values.{values}
use Rattle.lapi_base.specs.Record.Wires.{Run}
use Rattle.lapi_base.specs.Record.WorldView.{WorldView, act_at, acts_of, record_at, record_of}
use Rattle.lapi_base.proofs.ListLaws.{all-append}
use Rattle.lapi_parts.proofs.LineEvents.{workers-stay, held-stay}
use Rattle.lapi_parts.proofs.LinesTaken.{record-more, taken-record}
use Rattle.lapi_parts.proofs.QueuedJobs.{running-begun}
use Rattle.lapi_parts.proofs.Records.{record-sound}
use Rattle.lapi_world.specs.Jobs.{IsPlainLine, is_work}
use Rattle.lapi_live.specs.Histories.{IsForeign, GoesOn, HasWorker, IsShareable, SameJob, SameJobs, SameOtherJobs, record_after}

module _ (plan : WorldView) (t w : ℕ) (valid : ValidSchedule plan.script spells_packet plan.schedule) where
  -- records that are the same, and one line of another worker
  same-record : (old new : List ℕ) → record_after plan new ≡ record_after plan old → SameJob plan old new t w
  same-record old new is =
      (ap (λ (r : Run). Rattle.lapi_base.specs.Record.Jobs.runs r.journal t w) is, λ m at. ap (λ (r : Run). (values plan.script plan.rules r.journal).held m) is)

  one-line : (seen : List ℕ) (n : ℕ) (o : Option Act) → act_at plan.schedule n ≡ o → unwrap_or (option_map (works_at t w) o) false ≡ false → SameJob plan seen (seen ++ n ∷ []) t w
  unfolding acts_of
  one-line seen n None at other =
      same-record seen (seen ++ n ∷ [])
      (ap (record_of plan.script plan.rules) (filter_map-append (act_at plan.schedule) seen (n ∷ []) ∙ ap (λ (o : Option Act). filter_map (act_at plan.schedule) seen ++ cons_option o []) at ∙ append-nil (filter_map (act_at plan.schedule) seen)))
  one-line seen n (Some act) at other =
      let r = record_at plan.script plan.rules plan.schedule seen in
      let is = taken-record plan.script plan.rules plan.schedule seen valid in
      let more = record-more plan.script plan.rules plan.schedule seen n act at in (
        ap (λ (q : Run). Rattle.lapi_base.specs.Record.Jobs.runs q.journal t w) more ∙ workers-stay plan.script plan.rules r is act t w other,
        λ m runs.
            ap (λ (q : Run). (values plan.script plan.rules q.journal).held m) more
            ∙ held-stay plan.script plan.rules r is act m (running-begun plan.script plan.rules r.journal (record-sound plan.script plan.rules r is).atomic t w m runs).2,
      )

  then-same : (old mid new : List ℕ) → SameJob plan old mid t w → SameJob plan mid new t w → SameJob plan old new t w
  then-same old mid new first second = (second.0 ∙ first.0, λ m at. second.1 m (first.0 ∙ at) ∙ first.1 m at)

  -- lines that are none of the worker's leave what it runs
  pub same_job : (rest seen : List ℕ) → AllByRecursion (λ n. is_work_of plan.schedule t w n ≡ false) rest → SameJob plan seen (seen ++ rest) t w
  same_job [] seen none = subst (λ (l : List ℕ). SameJob plan seen l t w) (sym (append-nil seen)) (refl, λ m at. refl)
  same_job (n ∷ ns) seen none =
      then-same seen (seen ++ n ∷ []) (seen ++ n ∷ ns) (one-line seen n (act_at plan.schedule n) refl none.0)
      (subst (λ (l : List ℕ). SameJob plan (seen ++ n ∷ []) l t w) (append_assoc seen (n ∷ []) ns) (same_job ns (seen ++ n ∷ []) none.1))

-- lines of other lanes are none of the worker's
none_at : (schedule : List Line) (lanes t w : ℕ) (rest : List ℕ) → HasWorker schedule lanes t w → AllByRecursion (IsForeign schedule lanes) rest → AllByRecursion (λ n. is_work_of schedule t w n ≡ false) rest
none_at schedule lanes t w [] has h = tt
none_at schedule lanes t w (n ∷ ns) has h = (
  false_from_ne_true (is_work_of schedule t w n) (λ yes. let one = has n yes in let zero = h.0 in absurd (omega arith)),
  none_at schedule lanes t w ns has h.1,
)

pub same_jobs : (plan : WorldView) (lanes : ℕ) (old new : List ℕ) → IsShareable plan → GoesOn plan.schedule lanes old new → SameJobs plan lanes old new
same_jobs plan lanes old new s g = λ t w has.
    subst (λ (h : List ℕ). SameJob plan old h t w) (sym g.1) (same_job plan t w s.valid g.0 old (none_at plan.schedule lanes t w g.0 has g.2))

pub same_others : (plan : WorldView) (lanes n : ℕ) (old history new : List ℕ) → IsShareable plan → GoesOn plan.schedule lanes old history → new ≡ history ++ n ∷ [] → SameOtherJobs plan lanes n old new
same_others plan lanes n old history new s g e = λ t w has other.
    let none = all-append (λ k. is_work_of plan.schedule t w k ≡ false) g.0 (n ∷ []) (none_at plan.schedule lanes t w g.0 has g.2) (other, tt) in
    let is : new ≡ old ++ (g.0 ++ n ∷ []) = e ∙ (ap (λ (h : List ℕ). h ++ n ∷ []) g.1 ∙ append_assoc old g.0 (n ∷ [])) in
    subst (λ (h : List ℕ). SameJob plan old h t w) (sym is) (same_job plan t w s.valid (g.0 ++ n ∷ []) old none)

plain-other : (t w : ℕ) (act : Act) → is_work act ≡ false → works_at t w act ≡ false
plain-other t w (Act.Begin a v) h = absurd (cc)
plain-other t w (Act.End a v) h = absurd (cc)
plain-other t w (Step a) h = refl
plain-other t w (Poll a) h = refl
plain-other t w (Tick a) h = refl
plain-other t w (Deliver a b k) h = refl
plain-other t w (Cut a b k n) h = refl
plain-other t w (Inject a b bytes) h = refl

plain-line : (schedule : List Line) (t w n : ℕ) (o : Option Act) → act_at schedule n ≡ o → IsPlainLine schedule n → unwrap_or (option_map (works_at t w) o) false ≡ false
plain-line schedule t w n None at plain = refl
plain-line schedule t w n (Some act) at plain = plain-other t w act (plain act at)

pub same_plain : (plan : WorldView) (lanes n : ℕ) (old history new : List ℕ) → IsShareable plan → IsPlainLine plan.schedule n → GoesOn plan.schedule lanes old history → new ≡ history ++ n ∷ [] → SameJobs plan lanes old new
same_plain plan lanes n old history new s p g e = λ t w has. same_others plan lanes n old history new s g e t w has (plain-line plan.schedule t w n (act_at plan.schedule n) refl p)
