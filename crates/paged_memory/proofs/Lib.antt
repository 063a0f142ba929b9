pub mod BytesLemmas
pub mod ClearedLemmas
pub mod FlagLemmas
pub mod ListedLemmas
pub mod PageLemmas
pub mod SeenLemmas
pub mod StoredLemmas
pub mod UntouchedLemmas
