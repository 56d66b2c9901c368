pub mod EndsFormat
