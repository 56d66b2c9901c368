mod Judged
mod Walked
