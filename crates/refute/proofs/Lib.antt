mod Negating
mod Reports
