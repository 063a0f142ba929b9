pub mod SpanLemmas
