use Rattle.log_buffer.proofs.chain.Chain.add.Goals as goal

pub push-requires-clause-chain : goal.push-requires-clause-chain
push-requires-clause-chain c = (c.requires.0, c.reserve.ensures.same c.requires.0 c.requires.1)

pub returns : goal.returns
returns c = λ links h. c.push.ensures.chain links (c.reserve.ensures.same links h)
