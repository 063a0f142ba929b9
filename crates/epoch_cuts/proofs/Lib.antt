mod BitLemmas
mod ZeroLemmas
