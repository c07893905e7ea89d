-- The canonical lines of a script and the text of a journal of it are read as the two.
use Rattle.std.proofs.Common.{◌≡◌, ℕ, zero, suc, ◌^◌, ◌<◌, ◌≤◌, List, [], ◌∷◌, ◌++◌, length, map, refl, sym, ap, ◌∙◌, Bool, true, arith, append_assoc}
use Rattle.std.specs.Prelude.{codes, slice_index_or}
use Rattle.std.specs.List.{AllByRecursion, flat_map}
use Rattle.std.specs.Fmt.{decimal}
use Rattle.std.proofs.lemmas.Bool.{ltb-true, false≢true}
use Rattle.lapi_base.specs.declared.refusal.Refusal.{Refusal}
use Rattle.lapi_base.specs.declared.refusal.Refusal.TheVariants.{BadTask, BadTargetRange, BadOriginRange, BadCounter, TooLong, NoTable, BadHandler, BadUserHeader, VecCount, VecLength, StrideBelowBlock, Misaligned}
use Rattle.lapi_base.specs.declared.message.Leg.{Leg}
use Rattle.lapi_base.specs.declared.message.Leg.TheVariants.{Go, Back, Note, Echo, Join}
use Rattle.lapi_base.specs.declared.message.MsgName.{MsgName}
use Rattle.lapi_base.specs.declared.event.Event.{Event}
use Rattle.lapi_base.specs.declared.event.Event.TheVariants.{Issue, Refuse, Enter, Pass, Copy, Head, Land, Begin, End}
use Rattle.lapi_base.specs.declared.statement.Statement.{Statement}
use Rattle.lapi_base.specs.declared.script.Script.{Script}
use Rattle.lapi_base.specs.declared.rule.Rules.{Rules}
use Rattle.lapi_base.specs.Record.Valid.{ValidScript}
use Rattle.lapi_base.specs.Record.Operations.{statements, has_leg}
use Rattle.lapi_base.specs.Record.Names.{leg_eq}
use Rattle.lapi_base.specs.Record.Atomic.{is_there, has_statement, has_message}
use Rattle.lapi_base.specs.Input.Lines.{lines_of}
use Rattle.lapi_base.specs.Input.Rows.{Column, Word, done_row, script_rows, row_text, row_line}
use Rattle.lapi_base.specs.Input.AuditRows.{event_row, IsOfRequest, journal_row, audit_rows, most_events, IsAuditText, audit_text}
use Rattle.lapi_base.specs.Output.JournalText.{event_line}
use Rattle.lapi_base.specs.Output.TextParts.{dotted, leg_text, refusal_number, refusal_name, refusal_text}
use Rattle.lapi_text.proofs.Bounds.{both_true, PartFits, FitLeg}
use Rattle.lapi_text.proofs.Sound.{ValidList}
use Rattle.lapi_text.proofs.Canon.{RowFits, text_lines, lines_clean, lines_stand, all_append, script_fits, journal_fits, done_fits}
use Rattle.lapi_text.proofs.AuditSound.{audit_with}

-- ---- a journal's text has the rows of its events

line_is_row : (e : Event) → event_line e ≡ row_text (event_row e)
line_is_row (Issue t s) = refl
line_is_row (Refuse t s why) =
    let n = decimal (refusal_number why) in
    ap (λ r. (codes "refuse " ++ r) ++ codes "\n")
    (append_assoc (dotted t s) (codes " ") (refusal_text why) ∙ ap (λ r. dotted t s ++ (codes " " ++ r)) (append_assoc n (codes " ") (refusal_name why)))
line_is_row (Enter t s) = refl
line_is_row (Pass t s) = refl
line_is_row (Copy m) = ap (λ r. (codes "copy " ++ r) ++ codes "\n") (append_assoc (dotted m.origin m.statement) (codes " ") (leg_text m.leg))
line_is_row (Head m) = refl
line_is_row (Land m) = ap (λ r. (codes "land " ++ r) ++ codes "\n") (append_assoc (dotted m.origin m.statement) (codes " ") (leg_text m.leg))
line_is_row (Begin m t w) = ap (λ r. (codes "begin " ++ r) ++ codes "\n") (append_assoc (dotted m.origin m.statement) (codes " ") (dotted t w))
line_is_row (End m t w) = ap (λ r. (codes "end " ++ r) ++ codes "\n") (append_assoc (dotted m.origin m.statement) (codes " ") (dotted t w))

lines_are_rows : (events : List Event) → flat_map event_line events ≡ flat_map row_text (map event_row events)
lines_are_rows [] = refl
lines_are_rows (e ∷ events) = rw (line_is_row e) (ap (λ r. row_text (event_row e) ++ r) (lines_are_rows events))

texts_append : (a b : List (List Column)) → flat_map row_text (a ++ b) ≡ flat_map row_text a ++ flat_map row_text b
texts_append [] b = refl
texts_append (row ∷ a) b = ap (λ r. row_text row ++ r) (texts_append a b) ∙ sym (append_assoc (row_text row) (flat_map row_text a) (flat_map row_text b))

-- ---- what is there has small numbers

request_leg : (l : Leg) → leg_eq l Go ≡ true → l ≡ Go
request_leg Go e = refl
request_leg Back e = absurd (false≢true e)
request_leg Note e = absurd (false≢true e)
request_leg Echo e = absurd (false≢true e)
request_leg (Join d) e = absurd (false≢true e)

list_short : (lists : List (List Statement)) (a : ℕ) → AllByRecursion ValidList lists → length (slice_index_or lists a []) ≤ 512
list_short [] a all = omega arith
list_short (list ∷ lists) zero all = all.0.0
list_short (list ∷ lists) (suc a) all = list_short lists a all.1

refusal_few : (why : Refusal) → refusal_number why < 2 ^ 32
refusal_few BadTask = omega arith
refusal_few BadTargetRange = omega arith
refusal_few BadOriginRange = omega arith
refusal_few BadCounter = omega arith
refusal_few TooLong = omega arith
refusal_few NoTable = omega arith
refusal_few BadHandler = omega arith
refusal_few BadUserHeader = omega arith
refusal_few VecCount = omega arith
refusal_few VecLength = omega arith
refusal_few StrideBelowBlock = omega arith
refusal_few Misaligned = omega arith

refusal_plain : (why : Refusal) → PartFits (Word (refusal_name why))
refusal_plain BadTask = refl
refusal_plain BadTargetRange = refl
refusal_plain BadOriginRange = refl
refusal_plain BadCounter = refl
refusal_plain TooLong = refl
refusal_plain NoTable = refl
refusal_plain BadHandler = refl
refusal_plain BadUserHeader = refl
refusal_plain VecCount = refl
refusal_plain VecLength = refl
refusal_plain StrideBelowBlock = refl
refusal_plain Misaligned = refl

module _ (script : Script) (rules : Rules) (valid : ValidScript script) where
  dotted_few : (a i : ℕ) → has_statement script rules a i ≡ true → (a < 2 ^ 32) × (i < 2 ^ 32)
  dotted_few a i e =
      let both = both_true _ _ e in
      let task : a < script.tasks = ltb-true _ _ both.0 in
      let number : i < length (statements script a) = ltb-true _ _ both.1 in
      (omega (arith, task, valid.tasks.1), omega (arith, number, list_short script.lists a valid.lists))

  leg_few : (answered : Bool) (a : ℕ) (l : Leg) (s : Statement) → has_leg script answered a l s ≡ true → FitLeg l
  leg_few answered a Go s e = tt
  leg_few answered a Back s e = tt
  leg_few answered a Note s e = tt
  leg_few answered a Echo s e = tt
  leg_few answered a (Join d) s e =
      let both = both_true _ _ (both_true _ _ e).1 in
      let task : d < script.tasks = ltb-true _ _ both.0 in
      omega (arith, task, valid.tasks.1)

  message_few : (m : MsgName) → has_message script rules m ≡ true → ((m.origin < 2 ^ 32) × (m.statement < 2 ^ 32)) × FitLeg m.leg
  message_few m e =
      let both = both_true _ _ e in
      (dotted_few m.origin m.statement both.0, leg_few _ m.origin m.leg _ both.1)

  place_few : (m : MsgName) (t w : ℕ) → is_there script rules (Begin m t w) ≡ true → (t < 2 ^ 32) × (w < 2 ^ 32)
  place_few m t w e =
      let place = both_true _ _ (both_true _ _ (both_true _ _ e).1).1 in
      let task : t < script.tasks = ltb-true _ _ place.0 in
      let worker : w < script.workers = ltb-true _ _ place.1 in
      (omega (arith, task, valid.tasks.1), omega (arith, worker, valid.workers.1))

  event_fits : (e : Event) → is_there script rules e ≡ true → RowFits (event_row e)
  event_fits (Issue t s) h = (omega arith, (refl, (dotted_few t s (both_true _ _ h).0, tt)))
  event_fits (Refuse t s why) h = (omega arith, (refl, (dotted_few t s h, (refusal_few why, (refusal_plain why, tt)))))
  event_fits (Enter t s) h = (omega arith, (refl, (dotted_few t s (both_true _ _ h).0, tt)))
  event_fits (Pass t s) h = (omega arith, (refl, (dotted_few t s (both_true _ _ h).0, tt)))
  event_fits (Copy m) h = let few = message_few m h in (omega arith, (refl, (few.0, (few.1, tt))))
  event_fits (Head m) h = (omega arith, (refl, ((message_few m (both_true _ _ h).0).0, tt)))
  event_fits (Land m) h = let few = message_few m h in (omega arith, (refl, (few.0, (few.1, tt))))
  event_fits (Begin m t w) h = (omega arith, (refl, ((message_few m (both_true _ _ (both_true _ _ h).0).0).0, (place_few m t w h, tt))))
  event_fits (End m t w) h = (omega arith, (refl, ((message_few m (both_true _ _ (both_true _ _ h).0).0).0, (place_few m t w h, tt))))

  event_asked : (e : Event) → is_there script rules e ≡ true → IsOfRequest e
  event_asked (Issue t s) h = tt
  event_asked (Refuse t s why) h = tt
  event_asked (Enter t s) h = tt
  event_asked (Pass t s) h = tt
  event_asked (Copy m) h = tt
  event_asked (Head m) h = request_leg m.leg (both_true _ _ (both_true _ _ h).1).0
  event_asked (Land m) h = tt
  event_asked (Begin m t w) h = request_leg m.leg (both_true _ _ (both_true _ _ (both_true _ _ h).0).1).0
  event_asked (End m t w) h = request_leg m.leg (both_true _ _ (both_true _ _ (both_true _ _ h).0).1).0

  events_fit : (events : List Event) → AllByRecursion (λ e. is_there script rules e ≡ true) events → AllByRecursion RowFits (map event_row events) × AllByRecursion IsOfRequest events
  events_fit [] all = (tt, tt)
  events_fit (e ∷ events) all = let more = events_fit events all.1 in ((event_fits e all.0, more.0), (event_asked e all.0, more.1))

  -- the text of a script and of events that are there is theirs
  pub audit_canon : (events : List Event) → length events ≤ most_events → AllByRecursion (λ e. is_there script rules e ≡ true) events
      → IsAuditText (audit_with script events) (audit_text script (flat_map event_line events))
  audit_canon events few there =
      let x = audit_with script events in
      let fit = events_fit events there in
      let all : AllByRecursion RowFits (audit_rows x) =
      all_append RowFits (script_rows script) _ (script_fits script valid) (journal_fits, all_append RowFits (map event_row events) (done_row ∷ []) fit.0 (done_fits, tt)) in
      let text : audit_text script (flat_map event_line events) ≡ flat_map row_text (audit_rows x) =
      rw (lines_are_rows events)
      (sym (texts_append (script_rows script) (journal_row ∷ (map event_row events ++ done_row ∷ []))
      ∙ ap (λ r. flat_map row_text (script_rows script) ++ (row_text journal_row ++ r)) (texts_append (map event_row events) (done_row ∷ [])))) in
      let lines : lines_of (audit_text script (flat_map event_line events)) ≡ map row_line (audit_rows x) = ap lines_of text ∙ text_lines (audit_rows x) all in
      rw lines (record { clean = lines_clean (audit_rows x) all; rows = lines_stand (audit_rows x) all; script = valid; few = few; requests = fit.1 })
