-- The answers that the end of a link keeps for the headers of messages that are there in part.
use Rattle.std.proofs.Common.{◌≡◌, ℕ, Bool, true, false, cond, ◌&&◌, not, List, [], ◌∷◌, get_or, Option, Some, None, is_some, refl, sym, ap, ◌∙◌, subst, ⊎_elim}
use Rattle.std.specs.Prelude.{slice_get, option_map}
use Rattle.std.specs.Option.{option_or}
use Rattle.std.proofs.lemmas.Bool.{both_ways}
use Rattle.lapi_base.specs.declared.script.Script.{Script}
use Rattle.lapi_base.specs.declared.rule.Rules.{Rules}
use Rattle.lapi_base.specs.declared.handler.HeaderOut.{HeaderOut}
use Rattle.lapi_base.specs.declared.message.MsgName.{MsgName}
use Rattle.lapi_base.specs.declared.packet.Packet.{Packet}
use Rattle.lapi_base.specs.declared.packet.Packet.TheVariants.{Data}
use Rattle.lapi_base.specs.declared.packet.DataPacket.{DataPacket}
use Rattle.lapi_base.specs.Record.Arrived.{has_some, some_packet}
use Rattle.lapi_base.specs.Record.Names.{name_eq}
use Rattle.lapi_base.specs.Record.Wires.{has_number}
use Rattle.lapi_base.proofs.HeldPackets.{packet-found, none-found}
use Rattle.lapi_base.proofs.ListLaws.{at-place}
use Rattle.lapi_base.proofs.PacketNumbers.{some-there}
use Rattle.lapi_base.proofs.NameLaws.{name_eq-refl, name_eq-true}
use Rattle.lapi_window.specs.RecvWindow.{is_taken}
use Rattle.lapi_reassembly.specs.Partial.{Gathered}
use Rattle.lapi_reassembly.specs.Partials.{partial}
use Rattle.lapi_link.specs.declared.arrival.Arrival.{Arrival}
use Rattle.lapi_link.specs.declared.arrival.Arrival.TheVariants.{Repeat}
use Rattle.lapi_link.specs.Receiver.{ReceivingEnd, is_partial, is_complete, gathered_by, kept_answer, answer_of, unanswered, partial_of, partial_by, ReceivesFor, MayArrive, came, message_of, arrival_of}
use Rattle.lapi_link.proofs.ArrivalLaws.{other-partial, own-partial, before, known-partial}
use Rattle.lapi_task.specs.Answered.{answer_to, answer_for, KeepsAnswers}
use Rattle.lapi_task.specs.Landed.{kept_now}
use Rattle.lapi_task.specs.StandsFor.{ReceiverAt}

-- an answer tells nothing of what has come
for-unanswered : (rules : Rules) (o : Option Gathered) → answer_for rules (option_map unanswered o) ≡ answer_for rules o
for-unanswered rules None = refl
for-unanswered rules (Some g) = refl

none-kept : (o : Option Gathered) → option_map unanswered o ≡ None → kept_answer o ≡ None
none-kept None e = refl
none-kept (Some g) e = absurd (cc)

there-as : (o q : Option Gathered) → option_map unanswered o ≡ q → is_some o ≡ is_some q
there-as None q e = ap (λ (x : Option Gathered). is_some x) e
there-as (Some g) q e = ap (λ (x : Option Gathered). is_some x) e

absent-kept : (o : Option Gathered) → is_some o ≡ false → kept_answer o ≡ None
absent-kept None e = refl
absent-kept (Some g) e = absurd (cc)

absent-for : (rules : Rules) (o : Option Gathered) → is_some o ≡ false → answer_for rules o ≡ None
absent-for rules None e = refl
absent-for rules (Some g) e = absurd (cc)

or-none : (o : Option HeaderOut) → option_or o None ≡ o
or-none None = refl
or-none (Some x) = refl

module _ (script : Script) (rules : Rules) where
  -- The end keeps what was answered, by the packets of the link.
  abbrev pub KeptBy : List Packet → ReceivingEnd → Type 0
  KeptBy ps s = (m : MsgName) → answer_of s m ≡ answer_for rules (partial_of script ps m)

  pub kept-by : (ps : List Packet) (s : ReceivingEnd) → ReceivesFor script s ps → KeepsAnswers rules s → KeptBy ps s
  kept-by ps s h k m = k m ∙ sym (for-unanswered rules (partial s.partials m)) ∙ ap (answer_for rules) (h.partials m)

  pub keeps-by : (ps : List Packet) (s : ReceivingEnd) → ReceivesFor script s ps → KeptBy ps s → KeepsAnswers rules s
  keeps-by ps s h k m = k m ∙ ap (answer_for rules) (sym (h.partials m)) ∙ for-unanswered rules (partial s.partials m)

  -- before anything came
  pub new-kept : (end : ReceivingEnd) → ReceivesFor script end [] → KeepsAnswers rules end
  unfolding partial_of some_packet
  new-kept end h = keeps-by [] end h (λ m. none-kept (partial end.partials m) (h.partials m))

  there-is : (ps : List Packet) (s : ReceivingEnd) → ReceivesFor script s ps → (m : MsgName) → is_partial s m ≡ is_some (partial_of script ps m)
  there-is ps s h m = there-as (partial s.partials m) (partial_of script ps m) (h.partials m)

  -- what is answered to a message by a packet of it
  abbrev answer_by : DataPacket → Option HeaderOut
  answer_by p = answer_to rules p.name p.head p.length

  answer-of-part : (ps : List Packet) (p : DataPacket) → answer_for rules (partial_by script ps p.name (Some p)) ≡ cond (is_complete script ps p.name p.length) None (answer_by p)
  answer-of-part ps p =
      elim (is_complete script ps p.name p.length) as (λ b. answer_for rules (cond b None (Some (gathered_by script ps p.name p))) ≡ cond b None (answer_by p)) [ true ↦ refl | false ↦ refl ]

  module _ (ps : List Packet) (p : DataPacket) (fits : MayArrive script ps p) where
    -- what was kept for its message before
    pub kept-before : has_number ps p.seq ≡ false → has_some ps p.name ≡ true → answer_for rules (partial_of script ps p.name) ≡ answer_by p
    kept-before fresh some =
        ⊎_elim
        (λ (x : (some_packet ps p.name ≡ None) × (partial_of script ps p.name ≡ None)). absurd (both_ways (has_some ps p.name) (none-found ps p.name x.0) some))
        (λ (x : partial_of script ps p.name ≡ partial_by script ps p.name (Some p)). ap (answer_for rules) x ∙ answer-of-part ps p ∙ ap (λ b. cond b None (answer_by p)) (fits.open_message fresh))
        (before script ps p fits)

    none-before : has_some ps p.name ≡ false → answer_for rules (partial_of script ps p.name) ≡ None
    unfolding partial_of
    none-before none =
        elim (some_packet ps p.name) as (λ o. some_packet ps p.name ≡ o → answer_for rules (partial_by script ps p.name o) ≡ None) [
          | None ↦ λ _. refl
          | Some q ↦ λ e. let r = packet-found ps p.name q e in absurd (both_ways (has_some ps p.name) none (subst (λ (n : MsgName). has_some ps n ≡ true) r.2 (some-there ps r.0 q r.1)))
        ] refl

    abbrev complete : Bool
    complete = is_complete script (Data p ∷ ps) p.name p.length

    now-is : answer_for rules (partial_of script (Data p ∷ ps) p.name) ≡ cond complete None (answer_by p)
    now-is = ap (answer_for rules) (own-partial script ps p) ∙ answer-of-part (Data p ∷ ps) p

    now-there : is_some (partial_of script (Data p ∷ ps) p.name) ≡ not complete
    now-there =
        ap (λ (o : Option Gathered). is_some o) (own-partial script ps p)
        ∙ elim complete as (λ b. is_some (cond b None (Some (gathered_by script (Data p ∷ ps) p.name p))) ≡ not b) [ true ↦ refl | false ↦ refl ]

    kept-now : (old now : Option HeaderOut) → kept_now (arrival_of script ps p old) now ≡ cond (not (has_number ps p.seq) && (not (has_some ps p.name) && not complete)) now None
    unfolding arrival_of
    kept-now old now =
        elim (has_number ps p.seq) as (λ k. kept_now (cond k Repeat (came (has_some ps p.name) complete (message_of script ps p old))) now ≡ cond (not k && (not (has_some ps p.name) && not complete)) now None) [
          | true ↦ refl
          | false ↦ elim (has_some ps p.name) as (λ x. kept_now (came x complete (message_of script ps p old)) now ≡ cond (not x && not complete) now None) [
            | true ↦ elim complete as (λ c. kept_now (came true c (message_of script ps p old)) now ≡ None) [ true ↦ refl | false ↦ refl ]
            | false ↦ elim complete as (λ c. kept_now (came false c (message_of script ps p old)) now ≡ cond (not c) now None) [ true ↦ refl | false ↦ refl ]
          ]
        ]

    -- and what is kept now
    module _ (old mid new : ReceivingEnd) (was : ReceivesFor script old ps) (keeps : KeepsAnswers rules old) (stands : ReceivesFor script mid (Data p ∷ ps)) (same : (m : MsgName) → is_partial mid m ≡ true → answer_of mid m ≡ answer_of old m) where
      kept-old : (m : MsgName) → answer_of old m ≡ answer_for rules (partial_of script ps m)
      kept-old m = kept-by ps old was keeps m

      other-kept : (m : MsgName) → name_eq m p.name ≡ false → answer_of mid m ≡ answer_for rules (partial_of script (Data p ∷ ps) m)
      other-kept m apart =
          elim (is_partial mid m) as (λ b. is_partial mid m ≡ b → answer_of mid m ≡ answer_for rules (partial_of script (Data p ∷ ps) m)) [
            | true ↦ λ e. same m e ∙ kept-old m ∙ ap (answer_for rules) (sym (other-partial script ps p m apart))
            | false ↦ λ e. absent-kept (partial mid.partials m) e ∙ sym (absent-for rules (partial_of script (Data p ∷ ps) m) (sym (there-is (Data p ∷ ps) mid stands m) ∙ e))
          ] refl

      abbrev kept : Option HeaderOut
      kept = answer_of mid p.name

      abbrev wanted : Option HeaderOut
      wanted = answer_for rules (partial_of script (Data p ∷ ps) p.name)

      open-kept : complete ≡ false → kept ≡ answer_for rules (partial_of script ps p.name)
      open-kept e = same p.name (there-is (Data p ∷ ps) mid stands p.name ∙ now-there ∙ ap not e) ∙ kept-old p.name

      own-by : (known some whole : Bool) → has_number ps p.seq ≡ known → has_some ps p.name ≡ some → complete ≡ whole → option_or (cond (not known && (not some && not whole)) (answer_by p) None) kept ≡ wanted
      own-by known some true n s c =
          ap (λ b. option_or (cond b (answer_by p) None) kept) (never known some)
          ∙ absent-kept (partial mid.partials p.name) (there-is (Data p ∷ ps) mid stands p.name ∙ now-there ∙ ap not c)
          ∙ sym (now-is ∙ ap (λ b. cond b None (answer_by p)) c)
        where
          never : (x y : Bool) → (not x && (not y && false)) ≡ false
          never true y = refl
          never false true = refl
          never false false = refl
      own-by true some false n s c = open-kept c ∙ ap (answer_for rules) (known-partial script ps p fits n)
      own-by false true false n s c = open-kept c ∙ kept-before n s ∙ sym (now-is ∙ ap (λ b. cond b None (answer_by p)) c)
      own-by false false false n s c =
          ap (option_or (answer_by p)) (open-kept c ∙ none-before s)
          ∙ or-none (answer_by p)
          ∙ sym (now-is ∙ ap (λ b. cond b None (answer_by p)) c)

      pub still-kept : (arrival : Arrival) → arrival ≡ arrival_of script ps p (answer_of old p.name) → ReceivesFor script new (Data p ∷ ps) → answer_of new p.name ≡ option_or (kept_now arrival (answer_by p)) kept → ((m : MsgName) → (m ≡ p.name → ⊥) → answer_of new m ≡ answer_of mid m) → KeepsAnswers rules new
      still-kept arrival is now own others = keeps-by (Data p ∷ ps) new now (λ m.
          elim (name_eq m p.name) as (λ b. name_eq m p.name ≡ b → answer_of new m ≡ answer_for rules (partial_of script (Data p ∷ ps) m)) [
            | true ↦ λ e. subst (λ (x : MsgName). answer_of new x ≡ answer_for rules (partial_of script (Data p ∷ ps) x)) (sym (name_eq-true m p.name e))
                (own
                ∙ ap (λ (x : Arrival). option_or (kept_now x (answer_by p)) kept) is
                ∙ ap (λ o. option_or o kept) (kept-now (answer_of old p.name) (answer_by p))
                ∙ own-by (has_number ps p.seq) (has_some ps p.name) complete refl refl refl)
            | false ↦ λ e.
                others m (λ eq. both_ways (name_eq m p.name) e (subst (λ (x : MsgName). name_eq x p.name ≡ true) (sym eq) (name_eq-refl p.name)))
                ∙ other-kept m e
          ] refl)

pub lent-partials : (script : Script) (rules : Rules) (ps : List Packet) (ends : List ReceivingEnd) (a : ℕ) (end : ReceivingEnd) → ReceiverAt script rules ps (slice_get ends a) → end ≡ get_or ends a end → (m : MsgName) → option_map unanswered (partial end.partials m) ≡ partial_of script ps m
lent-partials script rules ps ends a end there read m =
    elim (slice_get ends a) as (λ o. slice_get ends a ≡ o → ReceiverAt script rules ps o → option_map unanswered (partial end.partials m) ≡ partial_of script ps m) [
      | None ↦ λ _ h. absurd h
      | Some x ↦ λ e h. ap (λ (s : ReceivingEnd). option_map unanswered (partial s.partials m)) (at-place ends a x end e read) ∙ (let receives = h.0 in receives.partials m)
    ] refl there

pub lent-answers : (script : Script) (rules : Rules) (ps : List Packet) (ends : List ReceivingEnd) (a : ℕ) (end : ReceivingEnd) → ReceiverAt script rules ps (slice_get ends a) → end ≡ get_or ends a end → (m : MsgName) → answer_of end m ≡ answer_for rules (partial end.partials m)
lent-answers script rules ps ends a end there read m =
    elim (slice_get ends a) as (λ o. slice_get ends a ≡ o → ReceiverAt script rules ps o → answer_of end m ≡ answer_for rules (partial end.partials m)) [
      | None ↦ λ _ h. absurd h
      | Some x ↦ λ e h. let same = at-place ends a x end e read in ap (λ (s : ReceivingEnd). answer_of s m) same ∙ h.1 m ∙ ap (λ (s : ReceivingEnd). answer_for rules (partial s.partials m)) (sym same)
    ] refl there

-- and the window tells what was taken
pub lent-window : (script : Script) (rules : Rules) (ps : List Packet) (ends : List ReceivingEnd) (a : ℕ) (end : ReceivingEnd) → ReceiverAt script rules ps (slice_get ends a) → end ≡ get_or ends a end → (n : ℕ) → is_taken end.window n ≡ has_number ps n
lent-window script rules ps ends a end there read n =
    elim (slice_get ends a) as (λ o. slice_get ends a ≡ o → ReceiverAt script rules ps o → is_taken end.window n ≡ has_number ps n) [
      | None ↦ λ _ h. absurd h
      | Some x ↦ λ e h. ap (λ (s : ReceivingEnd). is_taken s.window n) (at-place ends a x end e read) ∙ (let receives = h.0 in receives.taken n)
    ] refl there
