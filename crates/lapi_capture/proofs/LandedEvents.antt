-- The landings that the events of a line tell.
use Rattle.std.proofs.Common.{◌≡◌, ℕ, Bool, true, false, cond, ◌&&◌, not, List, [], ◌∷◌, ◌++◌, Option, refl, sym, ap, ◌∙◌, append_assoc}
use Rattle.std.specs.Prelude.{is_some, reverse}
use Rattle.std.specs.List.{filter_map, AllByRecursion}
use mathlib.Core.List.{reverse-cons}
use Rattle.std.proofs.lemmas.Bool.{cond_both}
use Rattle.std.proofs.lemmas.List.{append-nil, reverse-append}
use Rattle.std.proofs.lemmas.List.Elements.{filter_map-append}
use Rattle.lapi_base.specs.declared.event.Event.{Event}
use Rattle.lapi_base.specs.declared.event.Event.TheVariants.{Issue, Refuse, Enter, Pass, Copy, Head, Land, Begin, End}
use Rattle.lapi_base.specs.declared.head.Head.{Head as MessageHead}
use Rattle.lapi_base.specs.declared.head.Head.TheVariants as heads
use Rattle.lapi_base.specs.declared.message.Leg.TheVariants.{Note}
use Rattle.lapi_base.specs.declared.message.MsgName.{MsgName}
use Rattle.lapi_base.specs.declared.packet.DataPacket.{DataPacket}
use Rattle.lapi_base.specs.declared.packet.Packet.{Packet}
use Rattle.lapi_base.specs.declared.packet.Packet.TheVariants.{Data}
use Rattle.lapi_base.specs.declared.rule.Rules.{Rules}
use Rattle.lapi_base.specs.declared.schedule.Act.{Act}
use Rattle.lapi_base.specs.declared.script.Script.{Script}
use Rattle.lapi_base.specs.Record.Acts.{followed}
use Rattle.lapi_base.specs.Record.Arrived.{comes, count_of, has_some, whole_by}
use Rattle.lapi_base.specs.Record.Handlers.{has_completion}
use Rattle.lapi_base.specs.Record.HeadSays.{follows, is_active, noted}
use Rattle.lapi_base.specs.Record.Names.{message}
use Rattle.lapi_base.specs.Record.Operations.{receiver}
use Rattle.lapi_base.specs.Record.Wires.{Run}
use Rattle.lapi_capture.specs.Records.{landed}
use Rattle.lapi_parts.proofs.LineEvents.{IsBy, IsDelivery}

reverse-followed : (es J : List Event) → reverse (followed J es) ≡ reverse J ++ es
unfolding followed
reverse-followed [] J = sym (append-nil (reverse J))
reverse-followed (e ∷ es) J = reverse-followed es (e ∷ J) ∙ ap (λ xs. xs ++ es) (reverse-cons e J) ∙ append_assoc (reverse J) (e ∷ []) es

module _ (script : Script) where
  -- those of a journal, in order
  abbrev pub landed-in : List Event → List (MsgName × ℕ)
  landed-in J = filter_map (landed script) (reverse J)

  pub landed-followed : (es J : List Event) → landed-in (followed J es) ≡ landed-in J ++ filter_map (landed script) es
  landed-followed es J = ap (filter_map (landed script)) (reverse-followed es J) ∙ filter_map-append (landed script) (reverse J) es

  noted-none : (m : MsgName) (cmpl : Option ℕ) → filter_map (landed script) (noted m cmpl) ≡ []
  noted-none m cmpl = cond_both (is_some cmpl) (Copy (message m.origin m.statement Note) ∷ []) [] (λ es. filter_map (landed script) es ≡ []) (λ _. refl) (λ _. refl)

  follows-none : (h : MessageHead) (completion : Bool) (m : MsgName) → filter_map (landed script) (follows h completion m) ≡ []
  unfolding follows
  follows-none (heads.Put at tgt cmpl) completion m = noted-none m cmpl
  follows-none (heads.Putv tgt cmpl pieces) completion m = noted-none m cmpl
  follows-none (heads.Am handler tgt cmpl header) completion m = cond_both completion [] (noted m cmpl) (λ es. filter_map (landed script) es ≡ []) (λ _. refl) (λ _. noted-none m cmpl)
  follows-none (heads.GetGo asked source dest tgt org) completion m = refl
  follows-none (heads.GetvGo tgt org source dest) completion m = refl
  follows-none (heads.RmwGo op at in1 in2 prev org) completion m = refl
  follows-none _ completion m = refl

  -- a packet with a new number
  pub comes-landed : (rules : Rules) (ps : List Packet) (p : DataPacket) → filter_map (landed script) (comes script rules ps p) ≡ cond (whole_by (count_of script p.length) (Data p ∷ ps) p.name) ((p.name, receiver script p.name) ∷ []) []
  unfolding comes
  comes-landed rules ps p =
      let m = p.name in
      let after = follows p.head (has_completion script rules m.origin m.statement) m in
      let none = follows-none p.head (has_completion script rules m.origin m.statement) m in
      let L = filter_map (landed script) in
      elim (is_active p.head && not (has_some ps m)) as (λ h. L (cond h (Head m ∷ []) [] ++ cond (whole_by (count_of script p.length) (Data p ∷ ps) m) (Land m ∷ after) []) ≡ cond (whole_by (count_of script p.length) (Data p ∷ ps) m) ((m, receiver script m) ∷ []) []) [
        | true ↦ elim (whole_by (count_of script p.length) (Data p ∷ ps) m) as (λ w. L (Head m ∷ cond w (Land m ∷ after) []) ≡ cond w ((m, receiver script m) ∷ []) []) [ true ↦ ap (λ xs. (m, receiver script m) ∷ xs) none | false ↦ refl ]
        | false ↦ elim (whole_by (count_of script p.length) (Data p ∷ ps) m) as (λ w. L (cond w (Land m ∷ after) []) ≡ cond w ((m, receiver script m) ∷ []) []) [ true ↦ ap (λ xs. (m, receiver script m) ∷ xs) none | false ↦ refl ]
      ]

  -- all other lines
  module _ (rules : Rules) (r : Run) (act : Act) (other : IsDelivery act → ⊥) where
    event-none : (e : Event) → IsBy script rules r act e → filter_map (landed script) (e ∷ []) ≡ []
    event-none (Land m) by = absurd (other by)
    event-none (Issue t i) by = refl
    event-none (Refuse t i why) by = refl
    event-none (Enter t i) by = refl
    event-none (Pass t i) by = refl
    event-none (Copy m) by = refl
    event-none (Head m) by = refl
    event-none (Begin m t w) by = refl
    event-none (End m t w) by = refl

    added-none : (added : List Event) → AllByRecursion (IsBy script rules r act) added → landed-in added ≡ []
    added-none [] by = refl
    added-none (e ∷ es) by =
        ap (filter_map (landed script)) (reverse-cons e es)
        ∙ filter_map-append (landed script) (reverse es) (e ∷ [])
        ∙ ap (λ xs. xs ++ filter_map (landed script) (e ∷ [])) (added-none es by.1)
        ∙ event-none e by.0

    pub landed-same : (added J : List Event) → AllByRecursion (IsBy script rules r act) added → landed-in (added ++ J) ≡ landed-in J
    landed-same added J by =
        ap (filter_map (landed script)) (reverse-append added J)
        ∙ filter_map-append (landed script) (reverse J) (reverse added)
        ∙ ap (λ xs. landed-in J ++ xs) (added-none added by)
        ∙ append-nil (landed-in J)
