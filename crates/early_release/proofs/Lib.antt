mod WeakLemmas
