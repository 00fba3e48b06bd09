mod LeastLemmas
mod MadeLemmas
mod RulesLemmas
mod SafeLemmas
