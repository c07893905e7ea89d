-- Which call a statement is.
use Rattle.lapi_base.specs.declared.statement.Statement.{Statement}
use Rattle.lapi_base.specs.declared.statement.Statement.TheVariants.{Put, Get, Putv, Getv, Rmw, Am}

abbrev pub IsPut : Statement → Type 0
IsPut (Put target to from len tgt org cmpl) = Unit {0}
IsPut _ = ⊥

abbrev pub IsGet : Statement → Type 0
IsGet (Get target from to len tgt org) = Unit {0}
IsGet _ = ⊥

abbrev pub IsPutv : Statement → Type 0
IsPutv (Putv target to from tgt org cmpl) = Unit {0}
IsPutv _ = ⊥

abbrev pub IsGetv : Statement → Type 0
IsGetv (Getv target from to tgt org) = Unit {0}
IsGetv _ = ⊥

abbrev pub IsRmw : Statement → Type 0
IsRmw (Rmw target op at in1 in2 prev org) = Unit {0}
IsRmw _ = ⊥

abbrev pub IsAm : Statement → Type 0
IsAm (Am target handler header from len tgt org cmpl) = Unit {0}
IsAm _ = ⊥
