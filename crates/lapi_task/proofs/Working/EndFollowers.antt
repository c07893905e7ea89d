-- What follows the end of a job, as a message that follows: the answer of its completion handler, or the notice.
use Rattle.std.proofs.Common.{◌≡◌, ℕ, ◌+◌, ◌%◌, ◌^◌, ◌==◌, Bool, true, false, cond, ◌&&◌, List, ◌∷◌, Option, None, Some, refl, sym, ap, ◌∙◌, subst, add-zero}
use Rattle.std.specs.Prelude.{nat_le}
use Rattle.std.specs.List.{sum}
use Rattle.std.proofs.lemmas.Bool.{and_parts, cond-true, cond-false}
use Rattle.lapi_base.specs.declared.script.Script.{Script}
use Rattle.lapi_base.specs.declared.sizes.Sizes.{Sizes}
use Rattle.lapi_base.specs.declared.rule.CompletionRule.{CompletionRule}
use Rattle.lapi_base.specs.declared.rule.CompletionRule.TheVariants.{Nothing, Sum, Same, Reversed, Answer}
use Rattle.lapi_base.specs.declared.rule.Rules.{Rules}
use Rattle.lapi_base.specs.declared.statement.Statement.{Statement}
use Rattle.lapi_base.specs.declared.event.Event.{Event}
use Rattle.lapi_base.specs.declared.event.Event.TheVariants.{Copy, End}
use Rattle.lapi_base.specs.declared.head.Head.TheVariants as heads
use Rattle.lapi_base.specs.declared.head.NoteOp.{NoteOp}
use Rattle.lapi_base.specs.declared.message.Leg.TheVariants.{Go, Note, Echo}
use Rattle.lapi_base.specs.declared.message.MsgName.{MsgName}
use Rattle.lapi_base.specs.Laws.Entries.{carried}
use Rattle.lapi_base.specs.Packet.Layout.{layout_of, has_echo, may_answer, sizes_of}
use Rattle.lapi_base.specs.Record.Acts.{after_end}
use Rattle.lapi_base.specs.Record.Counters.{count, tells}
use Rattle.lapi_base.specs.Record.Handlers.{is_answer, answers, answer_of, sent_back, completion_answer, has_completion, rule_named, user, word_bytes}
use Rattle.lapi_base.specs.Record.Jobs.{is_job}
use Rattle.lapi_base.specs.Record.Names.{message, name_eq, leg_eq}
use Rattle.lapi_base.specs.Record.Operations.{statement, cmpl_counter, receiver}
use Rattle.lapi_base.specs.Record.Values.{values}
use Rattle.lapi_base.proofs.ListLaws.{some-same}
use Rattle.lapi_base.proofs.NameLaws.{name_eq-refl, leg_eq-true}
use Rattle.lapi_handlers.specs.declared.finished.Finished.{Finished}
use Rattle.lapi_parts.proofs.HeadAnswers.{jobs-followed}
use Rattle.lapi_task.specs.Landed.{Follower, follower_packet, note_of, echo_of}
use Rattle.lapi_task.specs.Working.{may_answer_at, word_back, end_follower, end_events}
use Rattle.lapi_task.proofs.Following.FollowerParts.{copies}
use Rattle.lapi_task.proofs.Following.Leaving.{Follows, sent-is, note-carries}
use Rattle.lapi_task.proofs.Receiving.ReceiveEvents.{is_polled}

-- ---- the word that an effect has for the origin

abbrev AnswersWith : Sizes → CompletionRule → (user : ℕ) → (bytes : List ℕ) → ℕ × ℕ → Type 0
AnswersWith sizes rule at bytes word =
    ((is_answer rule && may_answer_at sizes at) ≡ true)
    × (word.0 ≡ at)
    × (word_bytes word.1 ≡ sent_back (completion_answer rule at bytes))

word-some : (sizes : Sizes) (rule : CompletionRule) (at : ℕ) (bytes : List ℕ) (word : ℕ × ℕ) → word_back sizes (completion_answer rule at bytes) ≡ Some word → AnswersWith sizes rule at bytes word
word-some sizes Answer at bytes word e =
    let own : ℕ × ℕ = (at, sum bytes % 2 ^ 32) in
    elim (may_answer_at sizes at) as (λ b. cond b (Some own) None ≡ Some word → (b ≡ true) × (word.0 ≡ at) × (word_bytes word.1 ≡ word_bytes (sum bytes % 2 ^ 32))) [
      | true ↦ λ h.
          let same : own ≡ word = some-same own word h in
          (refl, ap (λ (x : ℕ × ℕ). x.0) (sym same), ap (λ (x : ℕ × ℕ). word_bytes x.1) (sym same))
      | false ↦ λ h. absurd (cc)
    ] e
word-some sizes Nothing at bytes word e = absurd (cc)
word-some sizes Sum at bytes word e = absurd (cc)
word-some sizes Same at bytes word e = absurd (cc)
word-some sizes Reversed at bytes word e = absurd (cc)

word-none : (sizes : Sizes) (rule : CompletionRule) (at : ℕ) (bytes : List ℕ) → word_back sizes (completion_answer rule at bytes) ≡ None → (is_answer rule && may_answer_at sizes at) ≡ false
word-none sizes Answer at bytes e =
    let own : ℕ × ℕ = (at, sum bytes % 2 ^ 32) in
    elim (may_answer_at sizes at) as (λ b. cond b (Some own) None ≡ None → b ≡ false) [
      | true ↦ λ h. absurd (cc)
      | false ↦ λ h. refl
    ] e
word-none sizes Nothing at bytes e = refl
word-none sizes Sum at bytes e = refl
word-none sizes Same at bytes e = refl
word-none sizes Reversed at bytes e = refl

regrouped : (layout own even within : Bool) → (((layout && true) && own) && (even && within)) ≡ (own && ((layout && even) && within))
regrouped true true even within = refl
regrouped true false even within = refl
regrouped false true even within = refl
regrouped false false even within = refl

-- the copy of what follows
pub events-are : (layout t : ℕ) (m : MsgName) (word : Option (ℕ × ℕ)) (cmpl : Option ℕ) → end_events m word cmpl ≡ copies (end_follower layout t m word cmpl)
events-are layout t m (Some word) cmpl = refl
events-are layout t m None None = refl
events-are layout t m None (Some c) = refl

module _ (script : Script) (rules : Rules) (t : ℕ) (m : MsgName) (job : is_job script rules t m ≡ true) where
  abbrev s : Statement
  s = statement script m.origin m.statement

  abbrev note : MsgName
  note = message m.origin m.statement Note

  abbrev echo : MsgName
  echo = message m.origin m.statement Echo

  abbrev go : MsgName
  go = message m.origin m.statement Go

  of-job : (go ≡ m) × (has_completion script rules m.origin m.statement ≡ true)
  unfolding is_job
  of-job =
      let both = and_parts (leg_eq m.leg Go) (has_completion script rules m.origin m.statement && receiver script m == t) job in
      let ends = and_parts (has_completion script rules m.origin m.statement) (receiver script m == t) both.1 in
      (λ i. record { origin = m.origin; statement = m.statement; leg = sym (leg_eq-true m.leg Go both.0) i }, ends.0)

  -- the job answers where its rule says so, and the word has a place
  answers-is : answers script rules m.origin m.statement ≡ (is_answer (rule_named script rules m) && may_answer_at (sizes_of script) (user script m))
  unfolding answers may_answer
  answers-is =
      let layout = has_echo (layout_of script.layout) in
      let test = λ (done : Bool) (k : MsgName). ((layout && done) && is_answer (rule_named script rules k)) && (user script k % 4 == 0 && nat_le (user script k + 4) script.memory) in
      ap (λ done. test done go) of-job.1
      ∙ ap (test true) of-job.0
      ∙ regrouped layout (is_answer (rule_named script rules m)) (user script m % 4 == 0) (nat_le (user script m + 4) script.memory)

  -- ---- what follows, where its completion handler has this word for the origin, or none

  -- so it is by the record, after these events
  pub record IsWordBack (J : List Event) (word : Option (ℕ × ℕ)) : Type 0 where
    pub some : (w : ℕ × ℕ) → word ≡ Some w → (answers script rules m.origin m.statement ≡ true) × (w.0 ≡ user script m) × (word_bytes w.1 ≡ answer_of script rules m ((values script rules J).held m))
    pub none : word ≡ None → answers script rules m.origin m.statement ≡ false

  pub word-is : (J : List Event) (sizes : Sizes) → sizes ≡ sizes_of script → (f : Finished) → f.effect ≡ completion_answer (rule_named script rules m) (user script m) f.buffer → f.buffer ≡ (values script rules J).held m → IsWordBack J (word_back sizes f.effect)
  unfolding answer_of
  word-is J sizes own f effect buffer =
      let rule = rule_named script rules m in
      let at = user script m in
      let by : word_back sizes f.effect ≡ word_back (sizes_of script) (completion_answer rule at f.buffer) = λ i. word_back (own i) (effect i) in
      record {
        some = λ w e.
            let x = word-some (sizes_of script) rule at f.buffer w (sym by ∙ e) in
            (answers-is ∙ x.0, x.1, x.2 ∙ ap (λ bytes. sent_back (completion_answer rule at bytes)) buffer);
        none = λ e. answers-is ∙ word-none (sizes_of script) rule at f.buffer (sym by ∙ e);
      }

  pub after-is : (J : List Event) (word : Option (ℕ × ℕ)) → IsWordBack J word → after_end script rules m ≡ end_events m word (cmpl_counter s)
  after-is J (Some w) is = cond-true (answers script rules m.origin m.statement) _ _ (is.some w refl).0
  after-is J None is = cond-false (answers script rules m.origin m.statement) _ _ (is.none refl)

  -- the notice
  note-follows : (J : List Event) (c : ℕ) → cmpl_counter s ≡ Some c → Follows script rules J t m.origin (note_of script.layout t m.origin m (heads.Note NoteOp.Am c))
  note-follows J c named = record {
    from = refl;
    to = refl;
    is = sent-is script rules note t m.origin 0 (heads.Note NoteOp.Am c) ((jobs-followed script rules t m job).0 c named);
    bytes = note-carries script rules m J;
  }

  -- the answer: its bytes are what the handler sends back
  echo-carries : (J : List Event) (w : ℕ) → answer_of script rules m ((values script rules J).held m) ≡ carried script rules (Copy echo ∷ End m t w ∷ J) echo
  unfolding values
  echo-carries J w =
      let held = (values script rules J).held in
      ap (λ (k : MsgName). answer_of script rules k (held k)) (sym of-job.0)
      ∙ sym (cond-true (name_eq echo echo) (answer_of script rules go (held go)) (carried script rules (End m t w ∷ J) echo) (name_eq-refl echo))

  echo-follows : (J : List Event) (w dest value : ℕ) → dest ≡ user script m → word_bytes value ≡ answer_of script rules m ((values script rules J).held m) → Follows script rules (End m t w ∷ J) t m.origin (echo_of script.layout t m.origin m dest value (cmpl_counter s))
  echo-follows J w dest value place bytes = record {
    from = refl;
    to = refl;
    is =
        sent-is script rules echo t m.origin 4 (heads.Echo (user script m) (cmpl_counter s)) (jobs-followed script rules t m job).1
        ∙ ap (λ (d : ℕ). follower_packet script.layout t m.origin m Echo (heads.Echo d (cmpl_counter s)) 4) (sym place);
    bytes = bytes ∙ echo-carries J w;
  }

  -- Each is the message of the record that is copied after the end of the job.
  pub end-follows : (J : List Event) (w : ℕ) (word : Option (ℕ × ℕ)) → IsWordBack J word → (o : Option ℕ) → cmpl_counter s ≡ o → (x : Follower) → end_follower script.layout t m word o ≡ Some x → Follows script rules (End m t w ∷ J) t m.origin x
  end-follows J w (Some word) is o named x e =
      let own = is.some word refl in
      subst (Follows script rules (End m t w ∷ J) t m.origin) (ap (λ (c : Option ℕ). echo_of script.layout t m.origin m word.0 word.1 c) named ∙ some-same _ _ e)
      (echo-follows J w word.0 word.1 own.1 own.2)
  end-follows J w None is (Some c) named x e = subst (Follows script rules (End m t w ∷ J) t m.origin) (some-same _ _ e) (note-follows (End m t w ∷ J) c named)
  end-follows J w None is None named x e = absurd (let q : None ≡ Some x = e in cc)

  -- No poll makes its copy, and that tells no counter.
  pub record EndsJob (k : MsgName) : Type 0 where
    pub leg : is_polled k.leg ≡ false
    pub counts : (J : List Event) (u c : ℕ) → count script rules (Copy k ∷ J) u c ≡ count script rules J u c

  note-ends : EndsJob note
  unfolding count tells
  note-ends = record { leg = refl; counts = λ J u c. add-zero (count script rules J u c) }

  echo-ends : EndsJob echo
  unfolding count tells
  echo-ends = record { leg = refl; counts = λ J u c. add-zero (count script rules J u c) }

  pub follower-ends : (word : Option (ℕ × ℕ)) (o : Option ℕ) (x : Follower) → end_follower script.layout t m word o ≡ Some x → EndsJob x.packet.name
  follower-ends (Some word) o x e = subst (λ (y : Follower). EndsJob y.packet.name) (some-same _ _ e) echo-ends
  follower-ends None (Some c) x e = subst (λ (y : Follower). EndsJob y.packet.name) (some-same _ _ e) note-ends
  follower-ends None None x e = absurd (let q : None ≡ Some x = e in cc)
