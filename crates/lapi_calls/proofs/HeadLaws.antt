-- The spans and heads by what each task gave are the record's.
use Rattle.std.proofs.Common.{◌≡◌, ℕ, ◌+◌, Bool, true, false, List, [], ◌∷◌, map, refl, ap, ◌∙◌}
use Rattle.std.specs.List.{AllByRecursion}
use Rattle.std.proofs.lemmas.Bool.{both_ways}
use Rattle.lapi_base.specs.declared.address.Addr.{Addr}
use Rattle.lapi_base.specs.declared.address.Addr.TheVariants.{Plain, Table}
use Rattle.lapi_base.specs.declared.piece.Piece.{Piece}
use Rattle.lapi_base.specs.declared.head.Head.{Head}
use Rattle.lapi_base.specs.declared.message.Leg.TheVariants.{Go}
use Rattle.lapi_base.specs.declared.script.Script.{Script}
use Rattle.lapi_base.specs.declared.statement.Statement.{Statement}
use Rattle.lapi_base.specs.declared.statement.Statement.TheVariants.{Put, Get, Putv, Getv, Rmw, Am}
use Rattle.lapi_base.specs.Record.Names.{message}
use Rattle.lapi_base.specs.Record.Operations.{address, pieces_of, spans, target, origin_pieces, is_data}
use Rattle.lapi_base.specs.Record.Packets.{head_by}
use Rattle.lapi_base.specs.Record.Valid.{IsPlain, ValidStatement}
use Rattle.lapi_calls.specs.Calls.{IsCall, IsSendable, HasRoom, AreTold, peer_of, spans_by}
use Rattle.lapi_calls.specs.Entries.{is_told, address_by, AreGiven}
use Rattle.lapi_calls.specs.Heads.{go_head_by}
use Rattle.lapi_calls.specs.Reaches.{reach_of, spans_of}
use Rattle.lapi_calls.proofs.PlainLaws.{vector-plain, origins-plain}

pub spans-given : (known : ℕ → Bool) (given : ℕ → ℕ → ℕ) (d : ℕ) (ps : List Piece) → spans_of (map (reach_of known given d) ps) ≡ spans_by given d ps
spans-given known given d [] = refl
spans-given known given d (p ∷ ps) = λ k. record { at = address_by given d p.at; len = p.len } ∷ spans-given known given d ps k

-- plain addresses are the same at every task
plain-address : (given : ℕ → ℕ → ℕ) (script : Script) (d e : ℕ) (at : Addr) → IsPlain at → address_by given d at ≡ address script e at
unfolding address
plain-address given script d e (Plain x) h = refl
plain-address given script d e (Table round offset) h = absurd h

plain-spans : (given : ℕ → ℕ → ℕ) (script : Script) (d e : ℕ) (ps : List Piece) → AllByRecursion (λ (p : Piece). IsPlain p.at) ps → spans_by given d ps ≡ spans script e ps
plain-spans given script d e [] h = refl
plain-spans given script d e (p ∷ ps) h = λ k. record { at = plain-address given script d e p.at h.0 k; len = p.len } ∷ plain-spans given script d e ps h.1 k

pub spans-at-origin : (given : ℕ → ℕ → ℕ) (s : Statement) → ValidStatement s → (script : Script) (d e : ℕ) → spans_by given d (origin_pieces s) ≡ spans script e (origin_pieces s)
spans-at-origin given s valid script d e = plain-spans given script d e (origin_pieces s) (origins-plain s valid)

module _ (script : Script) (known : ℕ → Bool) (given : ℕ → ℕ → ℕ) (same : AreGiven script known given) where
  address-told : (d : ℕ) (at : Addr) → is_told known at ≡ true → address_by given d at ≡ address script d at
  unfolding address
  address-told d (Plain x) h = refl
  address-told d (Table round offset) h = ap (λ n. n + offset) (same round d h)

  pub spans-told : (d : ℕ) (ps : List Piece) → AreTold known ps → spans_by given d ps ≡ spans script d ps
  spans-told d [] h = refl
  spans-told d (p ∷ ps) h = λ k. record { at = address-told d p.at h.0 k; len = p.len } ∷ spans-told d ps h.1 k

module _ (script : Script) (known : ℕ → Bool) (given : ℕ → ℕ → ℕ) (a i : ℕ) where
  head-told : (d : ℕ) (s : Statement) → AreGiven script known given → ValidStatement s → is_data s ≡ true → d ≡ target script a i → HasRoom known given d s → go_head_by given d s ≡ head_by script (message a i Go) Go s
  head-told d (Put target to from len tgt org cmpl) same valid moves peer fits =
      (λ k. Head.Put (address-told script known given same d to fits.told.0 k) tgt cmpl) ∙ (λ k. Head.Put (address script (peer k) to) tgt cmpl)
  head-told d (Get target from to len tgt org) same valid moves peer fits =
      (λ k. Head.GetGo len (address-told script known given same d from fits.told.0 k) to tgt org) ∙ (λ k. Head.GetGo len (address script (peer k) from) to tgt org)
  head-told d (Putv target to from tgt org cmpl) same valid moves peer fits =
      (λ k. Head.Putv tgt cmpl (spans-told script known given same d (pieces_of to) fits.told k)) ∙ (λ k. Head.Putv tgt cmpl (spans script (peer k) (pieces_of to)))
  head-told d (Getv target from to tgt org) same valid moves peer fits =
      (λ k. Head.GetvGo tgt org (spans-told script known given same d (pieces_of from) fits.told k) (plain-spans (λ _ _. 0) script 0 d (pieces_of to) (vector-plain to valid.3) k))
      ∙ (λ k. Head.GetvGo tgt org (spans script (peer k) (pieces_of from)) (spans script (peer k) (pieces_of to)))
  head-told d (Rmw target op at in1 in2 prev org) same valid moves peer fits =
      (λ k. Head.RmwGo op (address-told script known given same d at fits.told.0 k) in1 in2 prev org) ∙ (λ k. Head.RmwGo op (address script (peer k) at) in1 in2 prev org)
  head-told d (Am target handler header from len tgt org cmpl) same valid moves peer fits = refl
  head-told d _ same valid moves peer fits = absurd (both_ways false refl moves)

  pub go-head-told : (s : Statement) → IsCall script known given a i s → ValidStatement s → is_data s ≡ true → IsSendable known given a s → go_head_by given (peer_of a s) s ≡ head_by script (message a i Go) Go s
  go-head-told s call valid moves fits = head-told (peer_of a s) s call.are_given valid moves (ap (peer_of a) call.is_statement) fits
