pub mod Reports
pub mod Results
