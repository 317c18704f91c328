-- The register of a source, by its index alone or with the address that the modifier names.
use Rattle.sources.proofs.Sources.{register_direct, register_indirect}
use Rattle.sources.proofs.operands.register_of.Goals as goal

pub returns-then-component-eq0 : goal.returns-then-component-eq0
returns-then-component-eq0 c = register_direct _ _ c.indirection-component.ensures _ _ _ c.if-component-eq0.true c.from.ensures

pub returns : goal.returns
returns c =
    register_indirect _ _ c.indirection-component.ensures _ _ _ _ _ c.if-component-eq0.false
    c.word_at-address.ensures c.declared.ensures c.indirect.ensures
