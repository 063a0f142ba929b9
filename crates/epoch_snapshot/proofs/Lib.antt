mod FullLemmas
